-- The first place whose deadline has come.
use Rattle.std.proofs.Common.{◌≡◌, ℕ, zero, suc, ◌+◌, ◌<◌, Bool, true, false, List, [], ◌∷◌, length, get_or, Some, None, refl, ap, ◌∙◌, arith}
use Rattle.std.specs.List.{position, position_from}
use Rattle.std.proofs.lemmas.Iterator.Adapters.{position_from-zero}

module _ {X : Type 0} (test : X → Bool) where
  position_from_at : (xs : List X) (start i : ℕ) (d : X) → i < length xs → test (get_or xs i d) ≡ true → ((k : ℕ) → k < i → test (get_or xs k d) ≡ false) → position_from test start xs ≡ Some (start + i)
  position_from_at [] start i d l h below = absurd (omega arith)
  position_from_at (x ∷ xs) start zero d l h below = rw (h) (ap (λ n. Some n) (omega arith))
  position_from_at (x ∷ xs) start (suc i) d l h below =
      rw (below 0 (omega arith)) (position_from_at xs (start + 1) i d (omega arith) h (λ k m. below (suc k) (omega arith)) ∙ ap (λ n. Some n) (omega arith))

  -- the place that passes, where none before it does
  pub position-at : (xs : List X) (i : ℕ) (d : X) → i < length xs → test (get_or xs i d) ≡ true → ((k : ℕ) → k < i → test (get_or xs k d) ≡ false) → position test xs ≡ Some i
  position-at xs i d l h below = position_from-zero test xs ∙ position_from_at xs 0 i d l h below ∙ ap (λ n. Some n) (omega arith)

  position_from_none : (xs : List X) (start : ℕ) (d : X) → ((k : ℕ) → k < length xs → test (get_or xs k d) ≡ false) → position_from test start xs ≡ None
  position_from_none [] start d fails = refl
  position_from_none (x ∷ xs) start d fails = rw (fails 0 (omega arith)) (position_from_none xs (start + 1) d (λ k l. fails (suc k) (omega arith)))

  -- none passes
  pub position-none : (xs : List X) (d : X) → ((k : ℕ) → k < length xs → test (get_or xs k d) ≡ false) → position test xs ≡ None
  position-none xs d fails = position_from-zero test xs ∙ position_from_none xs 0 d fails
