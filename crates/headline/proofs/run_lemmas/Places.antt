-- One library of a run changes, and the others stay.
use Rattle.std.proofs.Common.{◌≡◌, ◌≢◌, inl, inr, ℕ, zero, suc, ◌<◌, List, [], ◌∷◌, length, Some, refl, ap, subst, sym, ◌∙◌, arith}
use Rattle.std.proofs.lemmas.Bool.{cases_eq}
use Rattle.std.proofs.lemmas.Option.{same_Some, slice_get_within}
use Rattle.std.specs.Prelude.{slice_get, slice_set}
use Rattle.script_run.specs.declared.callers.Caller.{Caller}
use Rattle.script_run.specs.declared.run.Run.{Run}
use Rattle.script_run.specs.Runs.{ChangesCaller}

pub get_set_same : {X : Type 0} (xs : List X) (i : ℕ) (x : X) → i < length xs → slice_get (slice_set xs i x) i ≡ Some x
get_set_same [] i x small = absurd (omega arith)
get_set_same (y ∷ xs) zero x small = refl
get_set_same (y ∷ xs) (suc i) x small = get_set_same xs i x (omega arith)

pub get_set_other : {X : Type 0} (xs : List X) (i j : ℕ) (x : X) → j ≢ i → slice_get (slice_set xs i x) j ≡ slice_get xs j
get_set_other [] i j x other = refl
get_set_other (y ∷ xs) zero zero x other = absurd (other refl)
get_set_other (y ∷ xs) zero (suc j) x other = refl
get_set_other (y ∷ xs) (suc i) zero x other = refl
get_set_other (y ∷ xs) (suc i) (suc j) x other = get_set_other xs i j x (λ same. other (ap suc same))

-- what holds of each library at its place
abbrev pub OfEach : (ℕ → Caller → Type 0) → Run → Type 0
OfEach P run = (place : ℕ) (caller : Caller) → slice_get run.callers.items place ≡ Some caller → P place caller

-- what holds of each before holds of each behind it, where it does so of the one that changes
pub each_behind : (P Q : ℕ → Caller → Type 0) (Changes : Caller → Caller → Type 0) (place : ℕ) (old new : Run) (is : ChangesCaller Changes place old new)
    → ((j : ℕ) (caller : Caller) → j ≢ place → P j caller → Q j caller) → (P place is.before → Q place is.after) → OfEach P old → OfEach Q new
each_behind P Q Changes place old new is others own was j caller found =
    let there : slice_get (slice_set old.callers.items place is.after) j ≡ Some caller = subst (λ all. slice_get all j ≡ Some caller) is.callers found in
    elim (cases_eq j place) [
      | inl same ↦ (
          let here : is.after ≡ caller = same_Some is.after caller (sym (get_set_same old.callers.items place is.after (slice_get_within old.callers.items place is.before is.found)) ∙ subst (λ k. slice_get (slice_set old.callers.items place is.after) k ≡ Some caller) same there) in
          subst (λ k. Q k caller) (sym same) (subst (Q place) here (own (was place is.before is.found))))
      | inr other ↦ others j caller other (was j caller (sym (get_set_other old.callers.items place j is.after other) ∙ there))
    ]
