-- Orders of a book.
use Rattle.std.proofs.Common.{◌≡◌, ◌≢◌, ℕ, Bool, true, false, List, nat_eq, refl, sym}
use Rattle.std.specs.Cmp.Lexicographic.{pointwise, same_text}

false_if_not_true : (b : Bool) → (b ≡ true → ⊥) → b ≡ false
false_if_not_true true not = absurd (not refl)
false_if_not_true false not = refl

-- another text isn't found equal
pub other_texts : (xs ys : List ℕ) → ys ≢ xs → pointwise nat_eq xs ys ≡ false
other_texts xs ys other = false_if_not_true (pointwise nat_eq xs ys) (λ same. other (sym (same_text xs ys (sym same))))
