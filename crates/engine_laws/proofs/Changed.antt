-- What belongs to one of them changes, and one connection has come so far.
use Rattle.std.proofs.Common.{◌≡◌, ◌≢◌, inl, inr, ℕ, cond, refl, sym, ap, subst}
use Rattle.std.proofs.lemmas.Bool.{cases_eq as same_or_other, eq-eqb, ne_eqb}
use Rattle.switchboard.specs.Told.{changed_at}
use Rattle.engine_laws.specs.Account.{Progress, done, only}

pub changed_here : {T : Type 0} (s : ℕ) (change : T → T) (all : ℕ → T) → changed_at s change all s ≡ change (all s)
changed_here s change all = ap (λ b. cond b (change (all s)) (all s)) (eq-eqb s s refl)

pub changed_there : {T : Type 0} (s : ℕ) (change : T → T) (all : ℕ → T) (j : ℕ) → j ≢ s → changed_at s change all j ≡ all j
changed_there s change all j other = ap (λ b. cond b (change (all j)) (all j)) (ne_eqb j s other)

-- what holds of each holds behind the change
pub changed_keeps : {T : Type 0} (P : ℕ → T → Type 0) (s : ℕ) (change : T → T) (all : ℕ → T) → P s (change (all s)) → ((j : ℕ) → j ≢ s → P j (all j)) → (j : ℕ) → P j (changed_at s change all j)
changed_keeps P s change all here there j = elim (same_or_other j s) [
  | inl e ↦ subst (λ n. P n (changed_at s change all n)) (sym e) (subst (P s) (sym (changed_here s change all)) here)
  | inr other ↦ subst (P j) (sym (changed_there s change all j other)) (there j other)
]

pub only_here : (k : ℕ) (progress : Progress) → only k progress k ≡ progress
only_here k progress = ap (λ b. cond b progress done) (eq-eqb k k refl)

pub only_there : (k : ℕ) (progress : Progress) (j : ℕ) → j ≢ k → only k progress j ≡ done
only_there k progress j other = ap (λ b. cond b progress done) (ne_eqb j k other)
