-- The least moment at which one of several things is due.
use Rattle.std.proofs.Common.{◌≡◌, ◌⊎◌, inl, inr, ℕ, ◌+◌, ◌<◌, min, arith, subst, sym}
use Rattle.std.specs.Prelude.{◌↔◌}

-- a number below the next one is the last or below it
last_or_below : (i n : ℕ) → i < n + 1 → (i ≡ n) ⊎ (i < n)
last_or_below i n within = grind arith

-- One more is looked at. Nothing is due of any of them exactly before the less of the two moments.
pub quiet_with_one : (Quiet : ℕ → Type 0) (n moment least here : ℕ)
    → (((i : ℕ) → i < n → Quiet i) ↔ (moment < least)) → (Quiet n ↔ (moment < here))
    → (((i : ℕ) → i < n + 1 → Quiet i) ↔ (moment < min least here))
quiet_with_one Quiet n moment least here before one = (
  (λ all. let earlier = before.0 (λ i within. all i (omega (arith, within))) in let last = one.0 (all n (omega arith)) in omega (arith, earlier, last)),
  (λ below i within. elim (last_or_below i n within) [
    | inl same ↦ subst Quiet (sym same) (one.1 (omega (arith, below)))
    | inr less ↦ before.1 (omega (arith, below)) i less
  ]),
)

-- So many were looked at, and these are all.
pub quiet_of_all : (Quiet : ℕ → Type 0) (n all moment least : ℕ) → n ≡ all
    → (((i : ℕ) → i < n → Quiet i) ↔ (moment < least)) → (((i : ℕ) → i < all → Quiet i) ↔ (moment < least))
quiet_of_all Quiet n all moment least same is = subst (λ n. ((i : ℕ) → i < n → Quiet i) ↔ (moment < least)) same is
