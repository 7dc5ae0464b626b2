-- What a session's gathering takes of the libraries' lanes is what its journal then has as sends.
use Rattle.std.proofs.Common.{◌≡◌, ◌≢◌, inl, inr, ℕ, zero, suc, ◌-◌, ◌<◌, ◌≤◌, ◌==◌, Bool, true, false, List, [], ◌∷◌, ◌++◌, length, refl, sym, ap, subst, ◌∙◌, arith}
use Rattle.std.proofs.lemmas.Bool.{cases_eq, eq-eqb, le-leb, lt-ltb, ne_eqb}
use Rattle.std.proofs.lemmas.List.{append-nil, append_assoc, get_or-set_other, get_or-set_same, length-set, map-append}
use Rattle.std.specs.Prelude.{◌&&◌, if◌then◌else◌, map, slice_index_or, slice_set}
use Rattle.lease_core.specs.Lines.{last_line, line_of, lines_of, missing_sends, no_line, raised, raised_line, raises, taken_back, taken_back_line, word_of}
use Rattle.lease_core.specs.Showable.{CanTimeOut}
use Rattle.lease_core.specs.State.{last_lease, last_or, no_lease, owner_in, state_of, with_last}
use Rattle.lease_core.specs.declared.entry.Entry.{Entry}
use Rattle.lease_core.specs.declared.lease.Lease.{Lease}
use Rattle.lease_core.specs.declared.lease.Line.{Line}
use Rattle.lease_core.specs.declared.word.Standing.{Standing}
use Rattle.lease_core.specs.declared.word.Standing.TheVariants.{Active, Released, Revoked}
use Rattle.lease_core.specs.declared.word.Word.{Word}
use Rattle.lease_desk.specs.Desk.{after_takes, bodies_of}
use Rattle.lease_words.specs.Sees.{after_take}
use Rattle.lease_words.specs.Views.{last_library, taken_of}
use Rattle.lease_words.specs.declared.item.Item.{Item}
use Rattle.lease_words.specs.declared.view.EngineSession.{EngineSession}
use Rattle.engine_laws.specs.libraries.Sends.{LanesAreTaken, logged_bodies}
use Rattle.engine_laws.proofs.library_lemmas.Going.{last_with_last, long_with_last}
use Rattle.engine_laws.proofs.library_lemmas.Sent.{KeepsSends}
use Rattle.message_log.specs.declared.entry.OutEntry.{OutEntry}
use Rattle.session_book.specs.Book.{Book}
use Rattle.session_book.specs.Sends.{AreSendsOf, new_sends}
use Rattle.session_book.specs.Words.{sent_entry, shown_sends}

-- as many lines, of which the last is of the same library
pub record SameLast (old new : List Line) : Type 0 where
  pub count : length new ≡ length old
  pub library : (last_line new).library ≡ (last_line old).library

same_last : (lines : List Line) → SameLast lines lines
same_last lines = record { count = refl; library = refl }

pub last_further : (first second third : List Line) → SameLast first second → SameLast second third → SameLast first third
last_further first second third one two = record { count = two.count ∙ one.count; library = two.library ∙ one.library }

-- the last line changes, and stays one of its library
last_changes : (f : Line → Line) → ((l : Line) → (f l).library ≡ l.library) → (lines : List Line) → SameLast lines (with_last f lines)
last_changes f same [] = same_last []
last_changes f same (l ∷ ls) = record {
  count = long_with_last f (l ∷ ls);
  library = ap (λ (x : Line). x.library) (last_with_last f no_line (l ∷ ls) (omega arith)) ∙ same (last_line (l ∷ ls));
}

last_chosen : (is : Bool) (w : Word) (lines : List Line) → SameLast lines (if is then with_last (raised_line w) lines else lines)
last_chosen true w lines = last_changes (raised_line w) (λ l. refl) lines
last_chosen false w lines = same_last lines

pub last_raised : (w : Word) (lines : List Line) → SameLast lines (raised lines w)
unfolding raised
last_raised w lines = last_chosen (raises lines w) w lines

pub last_taken_back : (standing : Standing) (lines : List Line) → SameLast lines (taken_back standing lines)
last_taken_back Active lines = last_changes taken_back_line (λ l. refl) lines
last_taken_back Released lines = same_last lines
last_taken_back Revoked lines = same_last lines

-- the last lease's library, by the journal and by its lines
last_of_map : (d : Lease) (leases : List Lease) → last_or (line_of d) (map line_of leases) ≡ line_of (last_or d leases)
last_of_map d [] = refl
last_of_map d (l ∷ ls) = last_of_map l ls

library_told : (entries : List Entry) → (last_line (lines_of entries)).library ≡ (last_lease (state_of entries).leases).library
library_told entries = ap (λ (l : Line). l.library) (last_of_map no_lease (state_of entries).leases)

-- without a line no word shows a send
nothing_chosen : (is : Bool) (w : Word) → (if is then with_last (raised_line w) [] else []) ≡ []
nothing_chosen true w = refl
nothing_chosen false w = refl

nothing_raised : (w : Word) → raised [] w ≡ []
unfolding raised
nothing_raised w = nothing_chosen (raises [] w) w

no_items : (items : List Item) → length items ≡ 0 → items ≡ []
no_items [] none = refl
no_items (item ∷ items) none = absurd (omega arith)

pub nothing_found : (lines : List Line) (w : Word) (items : List Item) → word_of (raised lines w) ≡ w → length items ≡ missing_sends lines w → length lines ≡ 0 → items ≡ []
nothing_found [] w items stands count none =
    let shown : 0 ≡ w.count = ap (λ (x : Word). x.count) (sym (ap word_of (nothing_raised w)) ∙ stands) in
    no_items items (count ∙ ap (λ n. n - 0) (sym shown))
nothing_found (l ∷ ls) w items stands count none = absurd (omega arith)

-- a word by which the session can be taken back raises the lines, and so shows all that they lack
all_three : (a b c : Bool) → a ≡ true → b ≡ true → c ≡ true → (a && b && c) ≡ true
all_three true true true one two three = refl
all_three false b c one two three = absurd cc
all_three true false c one two three = absurd cc
all_three true true false one two three = absurd cc

pub all_shown : (entries : List Entry) (w : Word) → CanTimeOut (lines_of entries) w → shown_sends entries w ≡ missing_sends (lines_of entries) w
all_shown entries w can =
    let lines = lines_of entries in
    let l = last_line lines in
    let is : raises lines w ≡ true = all_three _ _ _ (eq-eqb w.lease (length lines) can.showable.lease) (lt-ltb 0 (owner_in l.ending l.library) can.owned) (le-leb l.sends w.count can.showable.count) in
    ap (λ b. if b then missing_sends lines w else 0) is

-- taking items changes no line and no base, and there are as many lanes
takes_lines : (items : List Item) (es : EngineSession) → (after_takes items es).lines ≡ es.lines
takes_lines [] es = refl
takes_lines (item ∷ items) es = takes_lines items (after_take es (last_library es) (item ∷ []))

takes_base : (items : List Item) (es : EngineSession) → (after_takes items es).base ≡ es.base
takes_base [] es = refl
takes_base (item ∷ items) es = takes_base items (after_take es (last_library es) (item ∷ []))

takes_lanes : (items : List Item) (es : EngineSession) → length (after_takes items es).taken ≡ length es.taken
takes_lanes [] es = refl
takes_lanes (item ∷ items) es = takes_lanes items (after_take es (last_library es) (item ∷ [])) ∙ length-set es.taken (last_library es - 1) (taken_of es (last_library es) ++ item ∷ [])

-- they are taken of the last lease's library
takes_own : (items : List Item) (es : EngineSession) (library : ℕ) → last_library es ≡ library → library - 1 < length es.taken → taken_of (after_takes items es) library ≡ taken_of es library ++ items
takes_own [] es library own small = sym (append-nil (taken_of es library))
takes_own (item ∷ items) es library own small =
    let next = after_take es (last_library es) (item ∷ []) in
    let here : taken_of next library ≡ taken_of es library ++ item ∷ [] =
    subst (λ k. slice_index_or (slice_set es.taken (k - 1) (taken_of es k ++ item ∷ [])) (library - 1) [] ≡ taken_of es library ++ item ∷ []) (sym own)
    (get_or-set_same es.taken (library - 1) (taken_of es library ++ item ∷ []) [] small) in
    takes_own items next library own (subst (λ n. library - 1 < n) (sym (length-set es.taken (last_library es - 1) (taken_of es (last_library es) ++ item ∷ []))) small)
    ∙ ap (λ (xs : List Item). xs ++ items) here ∙ append_assoc (taken_of es library) (item ∷ []) items

-- and of no other
lanes_apart : (last library : ℕ) → 1 ≤ last → 1 ≤ library → last ≢ library → library - 1 ≢ last - 1
lanes_apart last library last_from_one from_one different same = different (omega arith)

takes_other : (items : List Item) (es : EngineSession) (library : ℕ) → 1 ≤ last_library es → 1 ≤ library → last_library es ≢ library → taken_of (after_takes items es) library ≡ taken_of es library
takes_other [] es library last_from_one from_one different = refl
takes_other (item ∷ items) es library last_from_one from_one different =
    takes_other items (after_take es (last_library es) (item ∷ [])) library last_from_one from_one different
    ∙ get_or-set_other es.taken (last_library es - 1) (library - 1) (taken_of es (last_library es) ++ item ∷ []) [] (lanes_apart (last_library es) library last_from_one from_one different)

some_lines : (n : ℕ) → n ≢ 0 → 0 < n
some_lines zero some = absurd (some refl)
some_lines (suc n) some = omega arith

-- the bodies that are logged are those that were taken
bodies_sent : (at : ℕ) (bodies : List (List ℕ)) → logged_bodies (map (sent_entry at) bodies) ≡ bodies
bodies_sent at [] = refl
bodies_sent at (body ∷ bodies) = ap (λ bs. body ∷ bs) (bodies_sent at bodies)

logged_more : (sends more : List OutEntry) → logged_bodies (sends ++ more) ≡ logged_bodies sends ++ logged_bodies more
logged_more sends more = map-append (λ (entry : OutEntry). entry.body) sends more

bodies_more : (items more : List Item) → bodies_of (items ++ more) ≡ bodies_of items ++ bodies_of more
bodies_more items more = map-append (λ (item : Item). item.body) items more

chosen : {A : Type 0} (is outcome : Bool) (xs ys : List A) → is ≡ outcome → (if is then xs else ys) ≡ (if outcome then xs else ys)
chosen is outcome xs ys known = ap (λ b. if b then xs else ys) known

-- A session goes on by sends of nobody.
pub lanes_stay : (libraries : ℕ) (before : List Entry) (old new : Book) (es : EngineSession) → KeepsSends old new → LanesAreTaken libraries before old es → LanesAreTaken libraries before new es
lanes_stay libraries before old new es keeps was = record {
  lines = keeps.lines ∙ was.lines;
  based = was.based;
  granted = was.granted;
  lanes = was.lanes;
  taken = λ library from_one to_last.
      let own = was.taken library from_one to_last in
      record { sends = own.sends; sends_are = keeps.sends library before own.sends own.sends_are; bodies = own.bodies };
}

-- These items are taken of the last lease's library, and sent.
module _ (libraries : ℕ) (before : List Entry) (at : ℕ) (items : List Item) (old new : Book) (es shown : EngineSession) (same_base : shown.base ≡ es.base) (same_taken : shown.taken ≡ es.taken) (last : SameLast es.lines shown.lines) (none : length es.lines ≡ 0 → items ≡ [])
    (was : LanesAreTaken libraries before old es) where
  abbrev last_one : ℕ
  last_one = (last_lease (state_of old.entries).leases).library

  last_is : last_library shown ≡ last_one
  last_is = last.library ∙ sym (ap (λ (ls : List Line). (last_line ls).library) was.lines) ∙ library_told old.entries

  same_lane : (library : ℕ) → taken_of shown library ≡ taken_of es library
  same_lane library = ap (λ (ts : List (List Item)). slice_index_or ts (library - 1) []) same_taken

  -- of the library whose lease is the last
  bodies_here : (library : ℕ) (sends : List OutEntry) → 1 ≤ library → library ≤ libraries → last_one ≡ library → logged_bodies sends ≡ bodies_of (taken_of es library)
      → logged_bodies (sends ++ new_sends library old at (bodies_of items)) ≡ bodies_of (taken_of (after_takes items shown) library)
  bodies_here library sends from_one to_last same bodies =
      let more : new_sends library old at (bodies_of items) ≡ map (sent_entry at) (bodies_of items) = chosen (last_one == library) true (map (sent_entry at) (bodies_of items)) [] (eq-eqb last_one library same) in
      let lanes : length shown.taken ≡ libraries = ap (λ (ts : List (List Item)). length ts) same_taken ∙ was.lanes in
      let took : taken_of (after_takes items shown) library ≡ taken_of es library ++ items =
      takes_own items shown library (last_is ∙ same) (omega arith) ∙ ap (λ (xs : List Item). xs ++ items) (same_lane library) in
      ap (λ (further : List OutEntry). logged_bodies (sends ++ further)) more ∙ logged_more sends (map (sent_entry at) (bodies_of items)) ∙ ap (λ bs. logged_bodies sends ++ bs) (bodies_sent at (bodies_of items))
      ∙ ap (λ bs. bs ++ bodies_of items) bodies ∙ sym (bodies_more (taken_of es library) items) ∙ sym (ap bodies_of took)

  -- and of another one nothing is
  took_none : (library : ℕ) → 1 ≤ library → last_one ≢ library → taken_of (after_takes items shown) library ≡ taken_of es library
  took_none library from_one different = elim (cases_eq (length es.lines) 0) [
    | inl empty ↦ ap (λ (xs : List Item). taken_of (after_takes xs shown) library) (none empty) ∙ same_lane library
    | inr some ↦ (
        let from : 1 ≤ last_library es = was.granted (some_lines (length es.lines) some) in
        takes_other items shown library (subst (λ n. 1 ≤ n) (sym last.library) from) from_one (λ same. different (sym last_is ∙ same)) ∙ same_lane library)
  ]

  bodies_there : (library : ℕ) (sends : List OutEntry) → 1 ≤ library → last_one ≢ library → logged_bodies sends ≡ bodies_of (taken_of es library)
      → logged_bodies (sends ++ new_sends library old at (bodies_of items)) ≡ bodies_of (taken_of (after_takes items shown) library)
  bodies_there library sends from_one different bodies =
      let more : new_sends library old at (bodies_of items) ≡ [] = chosen (last_one == library) false (map (sent_entry at) (bodies_of items)) [] (ne_eqb last_one library different) in
      ap (λ (further : List OutEntry). logged_bodies (sends ++ further)) more ∙ ap logged_bodies (append-nil sends) ∙ bodies ∙ sym (ap bodies_of (took_none library from_one different))

  pub lanes_gathered : lines_of new.entries ≡ shown.lines
      → ((library : ℕ) (sends : List OutEntry) → AreSendsOf library before sends old → AreSendsOf library before (sends ++ new_sends library old at (bodies_of items)) new)
      → LanesAreTaken libraries before new (after_takes items shown)
  lanes_gathered lines sent = record {
    lines = lines ∙ sym (takes_lines items shown);
    based = takes_base items shown ∙ same_base ∙ was.based;
    granted = λ some.
        let long = ap (λ (ls : List Line). length ls) (takes_lines items shown) in
        let count = last.count in
        subst (λ n. 1 ≤ n) (sym (ap (λ (ls : List Line). (last_line ls).library) (takes_lines items shown) ∙ last.library)) (was.granted (omega arith));
    lanes = takes_lanes items shown ∙ ap (λ (ts : List (List Item)). length ts) same_taken ∙ was.lanes;
    taken = λ library from_one to_last.
        let own = was.taken library from_one to_last in
        record {
          sends = own.sends ++ new_sends library old at (bodies_of items);
          sends_are = sent library own.sends own.sends_are;
          bodies = elim (cases_eq last_one library) [
            | inl same ↦ bodies_here library own.sends from_one to_last same own.bodies
            | inr different ↦ bodies_there library own.sends from_one different own.bodies
          ];
        };
  }
