-- What a table begins with: the rows and words of sessions so far, one more session, and the engine's rows of all.
use Rattle.std.proofs.Common.{◌≡◌, ◌≢◌, ℕ, zero, suc, ◌+◌, ◌<◌, ◌≤◌, List, [], ◌∷◌, ◌++◌, length, map, take, get_or, set, refl, sym, ap, ◌∙◌, subst, arith, length-set, append-nil, append_assoc}
use Rattle.std.specs.Prelude.{◌^◌, Option, replicate, option_to_list}
use Rattle.lease_core.specs.Kept.{Kept}
use Rattle.std.proofs.lemmas.List.{get_or-set_same, get_or-set_other, length_push}
use native.Mathlib.Decide.{ℕ_discrete}
use Rattle.lease_core.specs.declared.entry.Entry.{Entry}
use Rattle.lease_core.specs.declared.lease.Line.{Line}
use Rattle.lease_core.specs.State.{last_or}
use Rattle.lease_core.specs.declared.word.Word.{Word}
use Rattle.lease_core.specs.Lines.{last_line, word_of}
use Rattle.lease_core.specs.Word.{word_in}
use Rattle.lease_words.specs.declared.outset.Outset.{Outset}
use Rattle.lease_words.specs.declared.rows.EngineRow.{EngineRow}
use Rattle.lease_words.specs.Layout.{lease_word, word_count}
use Rattle.lease_words.specs.Leases.{Each}
use Rattle.lease_words.specs.Registries.{kept_lines, lines_of_each, IsEndedJournal, AreEnded, AreCounted, ended_line, ended_lines}
use Rattle.lease_words.specs.Tokens.{first_row, no_row, IsOutset}
use Rattle.lease_words.proofs.Opening.{same_in, length-same}

nothing_written : word_in 0 ≡ word_of []
unfolding word_in
nothing_written = refl

module _ {A : Type 0} where
  pushed_here : (xs : List A) (x d : A) → get_or (xs ++ x ∷ []) (length xs) d ≡ x
  pushed_here [] x d = refl
  pushed_here (y ∷ ys) x d = pushed_here ys x d

  pushed_else : (xs : List A) (x d : A) (i : ℕ) → i ≢ length xs → get_or (xs ++ x ∷ []) i d ≡ get_or xs i d
  pushed_else [] x d zero other = absurd (other refl)
  pushed_else [] x d (suc i) other = refl
  pushed_else (y ∷ ys) x d zero other = refl
  pushed_else (y ∷ ys) x d (suc i) other = pushed_else ys x d i (λ e. other (ap suc e))

each_push : (xs : List (List Line)) (x : List Line) → Each AreEnded xs → AreEnded x → Each AreEnded (xs ++ x ∷ [])
each_push [] x all is = (is, tt)
each_push (y ∷ ys) x all is = (all.0, each_push ys x all.1 is)

-- no session had a lease
pub outset_begins : (o : Outset) → o.before ≡ [] → o.rows.items ≡ replicate o.sessions no_row → o.words.items ≡ replicate (word_count o.sessions o.libraries) 0 → IsOutset o
outset_begins o none rows words = record {
  few = subst (λ (b : List (List Line)). length b ≤ o.sessions) (sym none) (omega arith);
  ended = subst (Each AreEnded) (sym none) tt;
  row_count = ap length rows ∙ length-same o.sessions no_row;
  rows = λ s h. ap (λ (l : List EngineRow). get_or l s no_row) rows ∙ (same_in o.sessions s no_row ∙ ap (λ (b : List (List Line)). first_row (get_or b s [])) (sym none));
  word_count = ap length words ∙ length-same (word_count o.sessions o.libraries) 0;
  leases = λ s h. ap word_in (ap (λ (l : List ℕ). get_or l (lease_word s) 0) words ∙ same_in (word_count o.sessions o.libraries) (lease_word s) 0)
      ∙ (nothing_written ∙ ap (λ (b : List (List Line)). word_of (get_or b s [])) (sym none));
  others = λ i none. ap (λ (l : List ℕ). get_or l i 0) words ∙ same_in (word_count o.sessions o.libraries) i 0;
}

-- one session more
pub outset_more : (o o' : Outset) (s n at : ℕ) (lines : List Line) (row : EngineRow) → IsOutset o → s ≡ length o.before → s < o.sessions → AreEnded lines → row ≡ first_row lines → at ≡ lease_word s → word_in n ≡ word_of lines
    → o'.sessions ≡ o.sessions → o'.libraries ≡ o.libraries → o'.before ≡ o.before ++ lines ∷ [] → o'.rows.items ≡ set o.rows.items s row → o'.words.items ≡ set o.words.items at n → IsOutset o'
outset_more o o' s n at lines row is next here ended row_is place reads sessions libraries before rows words =
    let near : s < length o.rows.items = subst (λ m. s < m) (sym is.row_count) here in
    let far : lease_word s < length o.words.items = let c = is.word_count in omega arith in
    let words' : o'.words.items ≡ set o.words.items (lease_word s) n = words ∙ ap (λ (i : ℕ). set o.words.items i n) place in
    let here' : (b : List (List Line)) → b ≡ o.before ++ lines ∷ [] → get_or b s [] ≡ lines =
    λ b e. ap (λ (b : List (List Line)). get_or b s []) e ∙ (ap (λ (i : ℕ). get_or (o.before ++ lines ∷ []) i []) next ∙ pushed_here o.before lines []) in
    let else' : (t : ℕ) → t ≢ s → get_or o'.before t [] ≡ get_or o.before t [] =
    λ t other. ap (λ (b : List (List Line)). get_or b t []) before ∙ pushed_else o.before lines [] t (λ e. other (e ∙ sym next)) in
    record {
      few = let size = ap length before ∙ length_push o.before lines in omega arith;
      ended = subst (Each AreEnded) (sym before) (each_push o.before lines is.ended ended);
      row_count = ap length rows ∙ (length-set o.rows.items s row ∙ (is.row_count ∙ sym sessions));
      rows = λ t h. elim (ℕ_discrete t s) [
        | yes same ↦
            subst (λ (t : ℕ). get_or o'.rows.items t no_row ≡ first_row (get_or o'.before t [])) (sym same)
            (ap (λ (l : List EngineRow). get_or l s no_row) rows ∙ (get_or-set_same o.rows.items s row no_row near ∙ (row_is ∙ ap first_row (sym (here' o'.before before)))))
        | no other ↦
            ap (λ (l : List EngineRow). get_or l t no_row) rows ∙ (get_or-set_other o.rows.items s t row no_row other ∙ (is.rows t (subst (λ m. t < m) sessions h) ∙ ap first_row (sym (else' t other))))
      ];
      word_count = ap length words ∙ (length-set o.words.items at n ∙ (is.word_count ∙ (λ j. word_count (sym sessions j) (sym libraries j))));
      leases = λ t h. elim (ℕ_discrete t s) [
        | yes same ↦
            subst (λ (t : ℕ). word_in (get_or o'.words.items (lease_word t) 0) ≡ word_of (get_or o'.before t [])) (sym same)
            (ap word_in (ap (λ (l : List ℕ). get_or l (lease_word s) 0) words' ∙ get_or-set_same o.words.items (lease_word s) n 0 far) ∙ (reads ∙ ap word_of (sym (here' o'.before before))))
        | no other ↦
            ap word_in (ap (λ (l : List ℕ). get_or l (lease_word t) 0) words' ∙ get_or-set_other o.words.items (lease_word s) (lease_word t) n 0 (λ e. other (omega arith)))
            ∙ (is.leases t (subst (λ m. t < m) sessions h) ∙ ap word_of (sym (else' t other)))
      ];
      others = λ i apart. ap (λ (l : List ℕ). get_or l i 0) words' ∙ (get_or-set_other o.words.items (lease_word s) i n 0 (apart s (subst (λ m. s < m) (sym sessions) here)) ∙ is.others i (λ t h. apart t (subst (λ m. t < m) (sym sessions) h)));
    }

-- with the word and the last line of those lines
pub outset_added : (o o' : Outset) (s n at : ℕ) (lines : List Line) (last : Line) (w : Word) (row : EngineRow) → IsOutset o → s ≡ length o.before → s < o.sessions → AreEnded lines → w ≡ word_of lines → last ≡ last_line lines
    → row ≡ record { lease = w.lease; library = last.library; count = w.count; pending = 0 } → at ≡ lease_word s → word_in n ≡ w
    → o'.sessions ≡ o.sessions → o'.libraries ≡ o.libraries → o'.before ≡ o.before ++ lines ∷ [] → o'.rows.items ≡ set o.rows.items s row → o'.words.items ≡ set o.words.items at n → IsOutset o'
outset_added o o' s n at lines last w row is next here ended word last_is row_is place reads sessions libraries before rows words =
    outset_more o o' s n at lines row is next here ended (row_is ∙ (λ j. record { lease = (word j).lease; library = (last_is j).library; count = (word j).count; pending = 0 })) place (reads ∙ word) sessions libraries before rows words

-- lists with the same values
pub same_lists : {A : Type 0} (d : A) (xs ys : List A) → length xs ≡ length ys → ((i : ℕ) → i < length xs → get_or xs i d ≡ get_or ys i d) → xs ≡ ys
same_lists d [] [] size same = refl
same_lists d [] (y ∷ ys) size same = absurd (omega arith)
same_lists d (x ∷ xs) [] size same = absurd (omega arith)
same_lists d (x ∷ xs) (y ∷ ys) size same = (λ j. same 0 (omega arith) j ∷ same_lists d xs ys (omega arith) (λ i h. same (suc i) (omega arith)) j)

-- lists read from their beginning on
pub take_more : {A : Type 0} (xs : List A) (i : ℕ) (d : A) → i < length xs → take (suc i) xs ≡ take i xs ++ get_or xs i d ∷ []
take_more [] i d near = absurd (omega arith)
take_more (x ∷ xs) zero d near = refl
take_more {A} (x ∷ xs) (suc i) d near = ap (λ (l : List A). x ∷ l) (take_more xs i d (omega arith))

pub length-taken : {A : Type 0} (xs : List A) (i : ℕ) → i ≤ length xs → length (take i xs) ≡ i
length-taken xs zero near = refl
length-taken [] (suc i) near = absurd (omega arith)
length-taken (x ∷ xs) (suc i) near = ap suc (length-taken xs i (omega arith))

pub map_more : {A B : Type 0} (f : A → B) (xs : List A) (x : A) → map f (xs ++ x ∷ []) ≡ map f xs ++ f x ∷ []
map_more f [] x = refl
map_more {A} {B} f (y ∷ ys) x = ap (λ (l : List B). f y ∷ l) (map_more f ys x)

-- the lines that one entry more ends
pub ended_more : (entries : List Entry) (e : Entry) → ended_lines (entries ++ e ∷ []) ≡ ended_lines entries ++ option_to_list (ended_line e)
ended_more [] e = append-nil (option_to_list (ended_line e))
ended_more (x ∷ xs) e = ap (λ (l : List Line). option_to_list (ended_line x) ++ l) (ended_more xs e) ∙ sym (append_assoc (option_to_list (ended_line x)) (ended_lines xs) (option_to_list (ended_line e)))

pub counted_more : (lines : List Line) (l : Line) → AreCounted lines → l.sends < 2 ^ 32 → AreCounted (lines ++ l ∷ [])
counted_more [] l all few = (few, tt)
counted_more (x ∷ xs) l all few = (all.0, counted_more xs l all.1 few)

pub last_more : (d : Line) (lines : List Line) (l : Line) → last_or d (lines ++ l ∷ []) ≡ l
last_more d [] l = refl
last_more d (x ∷ xs) l = last_more x xs l

pub one_more_ended : (entries : List Entry) (i : ℕ) (d : Entry) (o : Option Line) (lines lines' : List Line) → i < length entries → o ≡ ended_line (get_or entries i d) → lines ≡ ended_lines (take i entries) → lines' ≡ lines ++ option_to_list o
    → lines' ≡ ended_lines (take (i + 1) entries)
one_more_ended entries i d o lines lines' near told was is =
    let n : suc i ≡ i + 1 = omega arith in
    is ∙ ((λ j. was j ++ option_to_list (told j)) ∙ (sym (ended_more (take i entries) (get_or entries i d)) ∙ (ap ended_lines (sym (take_more entries i d near)) ∙ ap (λ (n : ℕ). ended_lines (take n entries)) n)))

-- the lines of one journal more
pub one_more_journal : (journals : List Kept) (i : ℕ) (d : Kept) → i < length journals → lines_of_each (take i journals) ++ kept_lines (get_or journals i d) ∷ [] ≡ lines_of_each (take (i + 1) journals)
one_more_journal journals i d near =
    let n : suc i ≡ i + 1 = omega arith in
    sym (map_more kept_lines (take i journals) (get_or journals i d)) ∙ (ap lines_of_each (sym (take_more journals i d near)) ∙ ap (λ (n : ℕ). lines_of_each (take n journals)) n)

pub length-lines : (journals : List Kept) → length (lines_of_each journals) ≡ length journals
length-lines [] = refl
length-lines (j ∷ js) = ap suc (length-lines js)

pub each_journal : (journals : List Kept) (i : ℕ) (d : Kept) → Each IsEndedJournal journals → i < length journals → IsEndedJournal (get_or journals i d)
each_journal [] i d all near = absurd (omega arith)
each_journal (j ∷ js) zero d all near = all.0
each_journal (j ∷ js) (suc i) d all near = each_journal js i d all.1 (omega arith)
