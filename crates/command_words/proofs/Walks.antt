-- What clap's definitions make of words that may stand in a command.
use Rattle.std.proofs.Common.{◌≡◌, ◌∙◌, ap, ap₂, subst, sym, refl, ℕ, ◌≤◌, Bool, true, false, List, [], ◌∷◌, codes, Option, Some, None, arith, length}
use Rattle.std.specs.Prelude.{IsTrue, not, ◌==◌, ◌&&◌, if◌then◌else◌, slice_get}
use Rattle.std.specs.List.{list_all}
use Rattle.std.specs.Option.{option_map_or}
use Rattle.std.specs.Str.{bytes_eq}
use Rattle.clap.specs.Lexer.{long_of, short_of}
use Rattle.clap.specs.Words.{Kinds, Row, Rule, Text, first_of, fault_of, is_simple, is_simple_and_free, matches_of}
use Rattle.clap.specs.Kinds.{or_else}
use Rattle.clap.specs.Simple.{Shape, built}
use Rattle.clap.specs.Walk.{Held, Walk, arg_by_index, finished, idle, long_or_other, nothing_held, settled, short_or_plain, to_positional, trailing, value, walk, walked, word_met}
use Rattle.clap.specs.Faults.{bundle_fault, check_fault, defaults_fault, flag_word_fault, settle_fault, step_fault, turn_fault, walk_fault, word_fault}
use Rattle.clap.specs.declared.error.kind.ErrorKind.TheVariants as kind
use Rattle.clap.specs.declared.builder.value_parser.Reading.TheVariants as reading
use Rattle.clap.specs.declared.parser.matches.ValueSource.TheVariants.{CommandLine}
use Rattle.clap.proofs.OnLiterals.{clap_on_literals}
use Rattle.command_words.specs.Words.{is_word}
use Rattle.command_words.specs.Places.{line_of_four}

pub is_simple_line : is_simple line_of_four ≡ true
unfolding clap_on_literals
is_simple_line = refl

pub is_free_line : is_simple_and_free line_of_four ≡ true
unfolding clap_on_literals
is_free_line = refl

abbrev shape : Shape
shape = (built line_of_four).top

abbrev rules : List Rule
rules = (built line_of_four).top.rules

-- between two words, with this position next
abbrev at : Held → ℕ → Walk
at h p = record { held = h; waiting = idle; position = p; is_trailing = false; stopped = None }

and_left : (a b : Bool) → IsTrue (a && b) → IsTrue a
and_left true b h = refl
and_left false b h = h

and_right : (a b : Bool) → IsTrue (a && b) → IsTrue b
and_right true b h = h
and_right false b h = cc

no_dash : (b : ℕ) → IsTrue (not (b == 45)) → (b == 45) ≡ false
no_dash b h = go (b == 45) h
  where
    go : (x : Bool) → IsTrue (not x) → x ≡ false
    go true h = cc
    go false h = refl

-- a word that may stand in a command is no flag
no_dashes : (word : Text) → IsTrue (is_word word) → bytes_eq word (45 ∷ 45 ∷ []) ≡ false
no_dashes [] is = cc
no_dashes (b ∷ bytes) is = rw (no_dash b is) refl

no_long : (word : Text) → IsTrue (is_word word) → long_of word ≡ None
no_long [] is = cc
no_long (b ∷ bytes) is = rw (no_dash b is) refl

no_short : (word : Text) → IsTrue (is_word word) → short_of word ≡ None
no_short [] is = cc
no_short (b ∷ bytes) is = rw (no_dash b is) refl

-- so it goes to the next place
plain_met : (p : ℕ) (word : Text) (h : Held) → IsTrue (is_word word) → word_met rules [] false idle p word h ≡ (h, value)
plain_met p word h is =
    ap (λ (x : Bool). if x then (h, trailing p) else long_or_other rules idle word (long_of word) h) (no_dashes word is)
    ∙ ap (λ (l : Option (Text × Option Text)). long_or_other rules idle word l h) (no_long word is)
    ∙ ap (λ (s : Option Text). short_or_plain rules idle word s h) (no_short word is)

plain_fault : (word : Text) (h : Held) → IsTrue (is_word word) → word_fault shape [] false idle word h ≡ []
plain_fault word h is =
    ap (λ (x : Bool). if x then [] else flag_word_fault rules false (long_of word) word h) (no_dashes word is)
    ∙ ap (λ (l : Option (Text × Option Text)). flag_word_fault rules false l word h) (no_long word is)
    ∙ ap (λ (s : Option Text). option_map_or (λ flags. bundle_fault rules false flags h) s []) (no_short word is)

walks_on : (p : ℕ) (word : List ℕ) (h : Held) → IsTrue (is_word word) → walked rules [] (at h p) word ≡ to_positional rules (arg_by_index rules p) word (at h p) h
unfolding walked
walks_on p word h is = rw (plain_met p word h is) refl

turns_on : (p : ℕ) (word : List ℕ) (h : Held) → IsTrue (is_word word) → turn_fault shape [] (at h p) word ≡ step_fault shape p h value
turns_on p word h is = rw (plain_met p word h is, plain_fault word h is) refl

-- what is held after one word, two, three and four
abbrev row : Text → Text → Row
row id word = record { id = id; values = word ∷ []; count = None; source = Some CommandLine; reading = reading.AsWritten }

abbrev held : List Row → Text → Text → Held
held rows id word = record { rows = rows; pending = Some (id, word ∷ []); skip = 0 }

abbrev one : Text → Held
one a = held [] (codes "command") a

abbrev two : Text → Text → Held
two a b = held (row (codes "command") a ∷ []) (codes "subject") b

abbrev three : Text → Text → Text → Held
three a b c = held (row (codes "command") a ∷ row (codes "subject") b ∷ []) (codes "address") c

abbrev four : Text → Text → Text → Text → Held
four a b c d = held (row (codes "command") a ∷ row (codes "subject") b ∷ row (codes "address") c ∷ []) (codes "turns") d

first_word : (a : Text) → IsTrue (is_word a) → walked rules [] (at nothing_held 1) a ≡ at (one a) 2
first_word a is = walks_on 1 a nothing_held is

second_word : (a b : Text) → IsTrue (is_word b) → walked rules [] (at (one a) 2) b ≡ at (two a b) 3
second_word a b is = walks_on 2 b (one a) is

third_word : (a b c : Text) → IsTrue (is_word c) → walked rules [] (at (two a b) 3) c ≡ at (three a b c) 4
third_word a b c is = walks_on 3 c (two a b) is

fourth_word : (a b c d : Text) → IsTrue (is_word d) → walked rules [] (at (three a b c) 4) d ≡ at (four a b c d) 5
fourth_word a b c d is = walks_on 4 d (three a b c) is

-- a word at a place is no fault
goes_on : (p : ℕ) (word : Text) (h : Held) (rest : List Text) (next : Walk) → IsTrue (is_word word) → step_fault shape p h value ≡ [] → walked rules [] (at h p) word ≡ next
    → walk_fault shape [] (at h p) (word ∷ rest) ≡ walk_fault shape [] next rest
unfolding walk_fault
goes_on p word h rest next is none on =
    ap₂ (λ (turn : Kinds) (walk : Walk). or_else turn (walk_fault shape [] walk rest)) (turns_on p word h is ∙ none) on

-- a fifth word is one
fifth_word : (a b c d e : Text) (rest : List Text) → IsTrue (is_word e) → walk_fault shape [] (at (four a b c d) 5) (e ∷ rest) ≡ kind.UnknownArgument ∷ []
unfolding walk_fault
fifth_word a b c d e rest is =
    ap (λ (turn : Kinds). or_else turn (walk_fault shape [] (walked rules [] (at (four a b c d) 5) e) rest)) (turns_on 5 e (four a b c d) is)

-- the faults of words, by where the walk over them ends
line_fault : (words : List Text) (h : Held) (p : ℕ) → walk rules [] nothing_held words ≡ at h p → walk_fault shape [] (at nothing_held 1) words ≡ []
    → fault_of line_of_four words ≡ or_else (settle_fault rules false h) (or_else (defaults_fault (settled rules h).rows rules) (check_fault shape (finished rules h) false))
line_fault words h p ends none = rw (ends, none) refl

line_rows : (words : List Text) (h : Held) (p : ℕ) → walk rules [] nothing_held words ≡ at h p → matches_of line_of_four words ≡ finished rules h
line_rows words h p ends = ap (λ (w : Walk). finished rules w.held) ends

-- the faults behind a walk that ends so
abbrev last_faults : Held → Kinds
last_faults h = or_else (settle_fault rules false h) (or_else (defaults_fault (settled rules h).rows rules) (check_fault shape (finished rules h) false))

none_last : last_faults nothing_held ≡ []
unfolding clap_on_literals
none_last = refl

one_last : (a : Text) → last_faults (one a) ≡ []
unfolding clap_on_literals
one_last a = refl

two_last : (a b : Text) → last_faults (two a b) ≡ []
unfolding clap_on_literals
two_last a b = refl

three_last : (a b c : Text) → last_faults (three a b c) ≡ []
unfolding clap_on_literals
three_last a b c = refl

four_last : (a b c d : Text) → last_faults (four a b c d) ≡ []
unfolding clap_on_literals
four_last a b c d = refl

-- the walks over one word, two, three and four
one_walk : (a : Text) → IsTrue (is_word a) → walk rules [] nothing_held (a ∷ []) ≡ at (one a) 2
one_walk a is = first_word a is

two_walk : (a b : Text) → IsTrue (is_word a) → IsTrue (is_word b) → walk rules [] nothing_held (a ∷ b ∷ []) ≡ at (two a b) 3
two_walk a b is_a is_b = ap (λ (w : Walk). walked rules [] w b) (one_walk a is_a) ∙ second_word a b is_b

three_walk : (a b c : Text) → IsTrue (is_word a) → IsTrue (is_word b) → IsTrue (is_word c) → walk rules [] nothing_held (a ∷ b ∷ c ∷ []) ≡ at (three a b c) 4
three_walk a b c is_a is_b is_c = ap (λ (w : Walk). walked rules [] w c) (two_walk a b is_a is_b) ∙ third_word a b c is_c

four_walk : (a b c d : Text) → IsTrue (is_word a) → IsTrue (is_word b) → IsTrue (is_word c) → IsTrue (is_word d) → walk rules [] nothing_held (a ∷ b ∷ c ∷ d ∷ []) ≡ at (four a b c d) 5
four_walk a b c d is_a is_b is_c is_d = ap (λ (w : Walk). walked rules [] w d) (three_walk a b c is_a is_b is_c) ∙ fourth_word a b c d is_d

-- what is said of the words of a walk, on the way
past_one : (a : Text) (rest : List Text) → IsTrue (is_word a) → walk_fault shape [] (at nothing_held 1) (a ∷ rest) ≡ walk_fault shape [] (at (one a) 2) rest
past_one a rest is = goes_on 1 a nothing_held rest (at (one a) 2) is refl (first_word a is)

past_two : (a b : Text) (rest : List Text) → IsTrue (is_word a) → IsTrue (is_word b) → walk_fault shape [] (at nothing_held 1) (a ∷ b ∷ rest) ≡ walk_fault shape [] (at (two a b) 3) rest
past_two a b rest is_a is_b = past_one a (b ∷ rest) is_a ∙ goes_on 2 b (one a) rest (at (two a b) 3) is_b refl (second_word a b is_b)

past_three : (a b c : Text) (rest : List Text) → IsTrue (is_word a) → IsTrue (is_word b) → IsTrue (is_word c)
    → walk_fault shape [] (at nothing_held 1) (a ∷ b ∷ c ∷ rest) ≡ walk_fault shape [] (at (three a b c) 4) rest
past_three a b c rest is_a is_b is_c = past_two a b (c ∷ rest) is_a is_b ∙ goes_on 3 c (two a b) rest (at (three a b c) 4) is_c refl (third_word a b c is_c)

past_four : (a b c d : Text) (rest : List Text) → IsTrue (is_word a) → IsTrue (is_word b) → IsTrue (is_word c) → IsTrue (is_word d)
    → walk_fault shape [] (at nothing_held 1) (a ∷ b ∷ c ∷ d ∷ rest) ≡ walk_fault shape [] (at (four a b c d) 5) rest
past_four a b c d rest is_a is_b is_c is_d = past_three a b c (d ∷ rest) is_a is_b is_c ∙ goes_on 4 d (three a b c) rest (at (four a b c d) 5) is_d refl (fourth_word a b c d is_d)

no_words_left : (w : Walk) → walk_fault shape [] w [] ≡ []
unfolding walk_fault
no_words_left w = refl

-- the rows of a parse have each word at its place
pub record AreRowsOf (words : List Text) (rows : List Row) : Type 0 where
  pub command : first_of (codes "command") rows ≡ slice_get words 0
  pub subject : first_of (codes "subject") rows ≡ slice_get words 1
  pub address : first_of (codes "address") rows ≡ slice_get words 2
  pub turns : first_of (codes "turns") rows ≡ slice_get words 3

-- four words at most have no fault, and their rows have each at its place
pub record AreTaken (words : List Text) : Type 0 where
  pub no_fault : fault_of line_of_four words ≡ []
  pub rows : AreRowsOf words (matches_of line_of_four words)

taken : (words : List Text) (h : Held) (p : ℕ) → walk rules [] nothing_held words ≡ at h p → walk_fault shape [] (at nothing_held 1) words ≡ [] → last_faults h ≡ []
    → AreRowsOf words (finished rules h) → AreTaken words
taken words h p ends none last rows = record {
  no_fault = line_fault words h p ends none ∙ last;
  rows = subst (AreRowsOf words) (sym (line_rows words h p ends)) rows;
}

pub four_are_taken : (words : List Text) → IsTrue (list_all is_word words) → length words ≤ 4 → AreTaken words
four_are_taken [] all few = taken [] nothing_held 1 refl (no_words_left _) none_last (record { command = refl; subject = refl; address = refl; turns = refl })
four_are_taken (a ∷ []) all few =
    let is_a = and_left (is_word a) _ all in
    taken (a ∷ []) (one a) 2 (one_walk a is_a) (past_one a [] is_a ∙ no_words_left _) (one_last a) (record { command = refl; subject = refl; address = refl; turns = refl })
four_are_taken (a ∷ b ∷ []) all few =
    let is_a = and_left (is_word a) _ all in
    let is_b = and_left (is_word b) _ (and_right (is_word a) _ all) in
    taken (a ∷ b ∷ []) (two a b) 3 (two_walk a b is_a is_b) (past_two a b [] is_a is_b ∙ no_words_left _) (two_last a b)
    (record { command = refl; subject = refl; address = refl; turns = refl })
four_are_taken (a ∷ b ∷ c ∷ []) all few =
    let is_a = and_left (is_word a) _ all in
    let is_b = and_left (is_word b) _ (and_right (is_word a) _ all) in
    let is_c = and_left (is_word c) _ (and_right (is_word b) _ (and_right (is_word a) _ all)) in
    taken (a ∷ b ∷ c ∷ []) (three a b c) 4 (three_walk a b c is_a is_b is_c) (past_three a b c [] is_a is_b is_c ∙ no_words_left _) (three_last a b c)
    (record { command = refl; subject = refl; address = refl; turns = refl })
four_are_taken (a ∷ b ∷ c ∷ d ∷ []) all few =
    let is_a = and_left (is_word a) _ all in
    let is_b = and_left (is_word b) _ (and_right (is_word a) _ all) in
    let is_c = and_left (is_word c) _ (and_right (is_word b) _ (and_right (is_word a) _ all)) in
    let is_d = and_left (is_word d) _ (and_right (is_word c) _ (and_right (is_word b) _ (and_right (is_word a) _ all))) in
    taken (a ∷ b ∷ c ∷ d ∷ []) (four a b c d) 5 (four_walk a b c d is_a is_b is_c is_d) (past_four a b c d [] is_a is_b is_c is_d ∙ no_words_left _) (four_last a b c d)
    (record { command = refl; subject = refl; address = refl; turns = refl })
four_are_taken (a ∷ b ∷ c ∷ d ∷ e ∷ rest) all few = absurd (omega arith)

refused : (words : List Text) → walk_fault shape [] (at nothing_held 1) words ≡ kind.UnknownArgument ∷ [] → fault_of line_of_four words ≡ kind.UnknownArgument ∷ []
refused words met = rw met refl

-- more have one
pub more_are_refused : (words : List Text) → IsTrue (list_all is_word words) → fault_of line_of_four words ≡ [] → length words ≤ 4
more_are_refused [] all none = omega arith
more_are_refused (a ∷ []) all none = omega arith
more_are_refused (a ∷ b ∷ []) all none = omega arith
more_are_refused (a ∷ b ∷ c ∷ []) all none = omega arith
more_are_refused (a ∷ b ∷ c ∷ d ∷ []) all none = omega arith
more_are_refused (a ∷ b ∷ c ∷ d ∷ e ∷ rest) all none =
    let is_a = and_left (is_word a) _ all in
    let is_b = and_left (is_word b) _ (and_right (is_word a) _ all) in
    let is_c = and_left (is_word c) _ (and_right (is_word b) _ (and_right (is_word a) _ all)) in
    let past = and_right (is_word c) _ (and_right (is_word b) _ (and_right (is_word a) _ all)) in
    let is_d = and_left (is_word d) _ past in
    let is_e = and_left (is_word e) _ (and_right (is_word d) _ past) in
    let met = past_four a b c d (e ∷ rest) is_a is_b is_c is_d ∙ fifth_word a b c d e rest is_e in
    let found = refused _ met in
    let bad : kind.UnknownArgument ∷ [] ≡ [] = sym found ∙ none in
    cc bad
