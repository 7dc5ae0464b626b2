-- Lists read by `get_elem?`, and facts of each of a list.
use Rattle.std.proofs.Common.{◌≡◌, ◌⊎◌, ℕ, zero, suc, ◌<◌, List, [], ◌∷◌, ◌++◌, length, get_or, set, refl, sym, ap, inl, inr, ⊎_elim, arith}
use mathlib.Core.Option.{some, some-injective, some-ne-none}
use lib.ListN.{get_elem?}
use Rattle.lease_words.specs.Leases.{Each}

module _ {A : Type 0} where
  pub there : (l : List A) (i : ℕ) → i < length l → (a : A) × (get_elem? l i ≡ some a)
  there [] i h = absurd (omega arith)
  there (x ∷ xs) zero h = (x, refl)
  there (x ∷ xs) (suc i) h = there xs i (omega arith)

  pub below_length : (l : List A) (i : ℕ) (a : A) → get_elem? l i ≡ some a → i < length l
  below_length [] i a e = absurd (some-ne-none a (sym e))
  below_length (x ∷ xs) zero a e = omega arith
  below_length (x ∷ xs) (suc i) a e = let h = below_length xs i a e in omega arith

  pub at_end : (l : List A) (a : A) (j : ℕ) (b : A) → get_elem? (l ++ a ∷ []) j ≡ some b → (get_elem? l j ≡ some b) ⊎ ((j ≡ length l) × (a ≡ b))
  at_end [] a zero b e = inr (refl, some-injective a b e)
  at_end [] a (suc j) b e = absurd (some-ne-none b (sym e))
  at_end (x ∷ xs) a zero b e = inl e
  at_end (x ∷ xs) a (suc j) b e = ⊎_elim (λ h. inl h) (λ t. inr (ap suc t.0, t.1)) (at_end xs a j b e)

  pub each_map : {P Q : A → Type 0} → ((x : A) → P x → Q x) → (xs : List A) → Each P xs → Each Q xs
  each_map f [] e = tt
  each_map f (x ∷ xs) e = (f x e.0, each_map f xs e.1)

  pub each_set : (P : A → Type 0) (xs : List A) (i : ℕ) (x : A) → Each P xs → P x → Each P (set xs i x)
  each_set P [] i x all is = tt
  each_set P (y ∷ ys) zero x all is = (is, all.1)
  each_set P (y ∷ ys) (suc i) x all is = (all.0, each_set P ys i x all.1 is)

  pub each_at : (P : A → Type 0) (xs : List A) (i : ℕ) (d : A) → Each P xs → P d → P (get_or xs i d)
  each_at P [] i d all is = is
  each_at P (x ∷ xs) zero d all is = all.0
  each_at P (x ∷ xs) (suc i) d all is = each_at P xs i d all.1 is

  -- of both facts
  pub each_two : (P Q R : A → Type 0) (xs : List A) → ((x : A) → P x → Q x → R x) → Each P xs → Each Q xs → Each R xs
  each_two P Q R [] f all also = tt
  each_two P Q R (x ∷ xs) f all also = (f x all.0 also.0, each_two P Q R xs f all.1 also.1)
