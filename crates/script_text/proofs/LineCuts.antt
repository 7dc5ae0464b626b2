-- A text is cut at its first LF.
use Rattle.std.proofs.Common.{◌≡◌, ◌≢◌, ℕ, zero, suc, ◌<◌, cond, List, [], ◌∷◌, length, get_or, take, drop, refl, sym, ap, ◌∙◌, arith}
use Rattle.std.proofs.lemmas.Bool.{ne_eqb}
use Rattle.script_text.specs.Meaning.{lines_of, onto_first}

-- no LF stands before the place
abbrev pub Unbroken : List ℕ → ℕ → Type 0
Unbroken text i = (k : ℕ) → k < i → get_or text k 0 ≢ 10

other-behind : (b : ℕ) (bytes : List ℕ) (i : ℕ) → Unbroken (b ∷ bytes) (suc i) → Unbroken bytes i
other-behind b bytes i none k h = none (suc k) (omega arith)

pub lines-nil : lines_of [] ≡ []
unfolding lines_of
lines-nil = refl

lines-other : (b : ℕ) (bytes : List ℕ) → b ≢ 10 → lines_of (b ∷ bytes) ≡ onto_first b (lines_of bytes)
unfolding lines_of
lines-other b bytes other = ap (λ v. cond v ([] ∷ lines_of bytes) (onto_first b (lines_of bytes))) (ne_eqb b 10 other)

lines-LF : (bytes : List ℕ) → lines_of (10 ∷ bytes) ≡ [] ∷ lines_of bytes
unfolding lines_of
lines-LF bytes = refl

pub lines-cut : (text : List ℕ) (i : ℕ) → Unbroken text i → i < length text → get_or text i 0 ≡ 10 → lines_of text ≡ take i text ∷ lines_of (drop (suc i) text)
lines-cut [] i none within found = absurd (omega arith)
lines-cut (b ∷ bytes) zero none within found = ap (λ c. lines_of (c ∷ bytes)) found ∙ lines-LF bytes
lines-cut (b ∷ bytes) (suc i) none within found =
    lines-other b bytes (none 0 (omega arith))
    ∙ ap (onto_first b) (lines-cut bytes i (other-behind b bytes i none) (omega arith) found)

pub lines-whole : (text : List ℕ) → 0 < length text → Unbroken text (length text) → lines_of text ≡ text ∷ []
lines-whole [] some none = absurd (omega arith)
lines-whole (b ∷ []) some none = lines-other b [] (none 0 (omega arith)) ∙ ap (onto_first b) lines-nil
lines-whole (b ∷ c ∷ bytes) some none =
    lines-other b (c ∷ bytes) (none 0 (omega arith))
    ∙ ap (onto_first b) (lines-whole (c ∷ bytes) (omega arith) (other-behind b (c ∷ bytes) (length (c ∷ bytes)) none))

pub lines-whole-nil : (text : List ℕ) → 0 < length text → Unbroken text (length text) → lines_of text ≡ text ∷ lines_of []
lines-whole-nil text some none = lines-whole text some none ∙ ap (λ (xs : List (List ℕ)). text ∷ xs) (sym lines-nil)
