-- A text is cut at its first LF.
use Rattle.std.proofs.Common.{◌≡◌, ◌≢◌, ℕ, zero, suc, ◌<◌, ◌&&◌, Bool, true, false, cond, eqb, List, [], ◌∷◌, length, get_or, take, drop, refl, sym, ap, ◌∙◌, arith}
use Rattle.std.proofs.lemmas.Bool.{ne_eqb, false≢true}
use Rattle.journal_audit.specs.Cut.{Cut, cut_of, with_line, onto_first}
use Rattle.journal_audit.specs.Verdicts.{is_last}

-- no LF stands before the place
abbrev pub Unbroken : List ℕ → ℕ → Type 0
Unbroken text i = (k : ℕ) → k < i → get_or text k 0 ≢ 10

other-behind : (b : ℕ) (bytes : List ℕ) (i : ℕ) → Unbroken (b ∷ bytes) (suc i) → Unbroken bytes i
other-behind b bytes i none k h = none (suc k) (omega arith)

cut-nil : cut_of [] ≡ record { lines = []; rest = [] }
unfolding cut_of
cut-nil = refl

cut-other : (b : ℕ) (bytes : List ℕ) → b ≢ 10 → cut_of (b ∷ bytes) ≡ onto_first b (cut_of bytes).lines (cut_of bytes).rest
unfolding cut_of
cut-other b bytes other = ap (λ v. cond v (with_line [] (cut_of bytes)) (onto_first b (cut_of bytes).lines (cut_of bytes).rest)) (ne_eqb b 10 other)

cut-LF : (bytes : List ℕ) → cut_of (10 ∷ bytes) ≡ with_line [] (cut_of bytes)
unfolding cut_of
cut-LF bytes = refl

pub cut-at : (text : List ℕ) (i : ℕ) → Unbroken text i → i < length text → get_or text i 0 ≡ 10 → cut_of text ≡ with_line (take i text) (cut_of (drop (suc i) text))
cut-at [] i none within found = absurd (omega arith)
cut-at (b ∷ bytes) zero none within found = ap (λ c. cut_of (c ∷ bytes)) found ∙ cut-LF bytes
cut-at (b ∷ bytes) (suc i) none within found =
    cut-other b bytes (none 0 (omega arith))
    ∙ ap (λ (c : Cut). onto_first b c.lines c.rest) (cut-at bytes i (other-behind b bytes i none) (omega arith) found)

onto-none : (b : ℕ) (lines : List (List ℕ)) (rest : List ℕ) → lines ≡ [] → (onto_first b lines rest).lines ≡ []
onto-none b [] rest e = refl
onto-none b (l ∷ lines) rest e = cc

pub cut-none : (text : List ℕ) → Unbroken text (length text) → (cut_of text).lines ≡ []
cut-none [] none = ap (λ (c : Cut). c.lines) cut-nil
cut-none (b ∷ bytes) none =
    ap (λ (c : Cut). c.lines) (cut-other b bytes (none 0 (omega arith)))
    ∙ onto-none b (cut_of bytes).lines (cut_of bytes).rest (cut-none bytes (other-behind b bytes (length bytes) none))

-- Nothing follows just where no byte does.

not-empty : {A : Type 0} (x : A) (xs : List A) → eqb (length (x ∷ xs)) 0 ≡ false
not-empty x xs = ne_eqb (length (x ∷ xs)) 0 (omega arith)

first-no : (a b : Bool) → a ≡ false → a && b ≡ false
first-no true b e = absurd (false≢true (sym e))
first-no false b e = refl

second-no : (a b : Bool) → b ≡ false → a && b ≡ false
second-no true b e = e
second-no false b e = refl

cut-cons : (b : ℕ) (bytes : List ℕ) → cut_of (b ∷ bytes) ≡ cond (eqb b 10) (with_line [] (cut_of bytes)) (onto_first b (cut_of bytes).lines (cut_of bytes).rest)
unfolding cut_of
cut-cons b bytes = refl

last-onto : (b : ℕ) (lines : List (List ℕ)) (rest : List ℕ) → is_last (onto_first b lines rest).lines (onto_first b lines rest).rest ≡ false
last-onto b [] rest = second-no true (eqb (length (b ∷ rest)) 0) (not-empty {A = ℕ} b rest)
last-onto b (l ∷ lines) rest = first-no (eqb (length ((b ∷ l) ∷ lines)) 0) (eqb (length rest) 0) (not-empty {A = List ℕ} (b ∷ l) lines)

last-by : (b : ℕ) (bytes : List ℕ) (v : Bool) (c : Cut) → c ≡ cond v (with_line [] (cut_of bytes)) (onto_first b (cut_of bytes).lines (cut_of bytes).rest) → is_last c.lines c.rest ≡ false
last-by b bytes true c e = ap (λ (d : Cut). is_last d.lines d.rest) e ∙ first-no (eqb (length ([] ∷ (cut_of bytes).lines)) 0) (eqb (length (cut_of bytes).rest) 0) (not-empty {A = List ℕ} [] (cut_of bytes).lines)
last-by b bytes false c e = ap (λ (d : Cut). is_last d.lines d.rest) e ∙ last-onto b (cut_of bytes).lines (cut_of bytes).rest

pub last-is : (text : List ℕ) → is_last (cut_of text).lines (cut_of text).rest ≡ eqb (length text) 0
last-is [] = ap (λ (c : Cut). is_last c.lines c.rest) cut-nil
last-is (b ∷ bytes) = last-by b bytes (eqb b 10) (cut_of (b ∷ bytes)) (cut-cons b bytes) ∙ sym (not-empty {A = ℕ} b bytes)
