-- The ends of one library's rings change, and those of the others stay.
use Rattle.std.proofs.Common.{◌≡◌, ◌≢◌, inl, inr, ℕ, zero, suc, ◌-◌, ◌<◌, ◌≤◌, List, [], ◌∷◌, length, Some, refl, sym, ap, subst, ◌∙◌, arith}
use Rattle.std.proofs.lemmas.Bool.{cases_eq}
use Rattle.std.proofs.lemmas.Option.{same_Some, slice_get_within}
use Rattle.std.specs.Prelude.{slice_get, slice_set}
use Rattle.library_desk.specs.declared.ends.EngineEnds.{EngineEnds}

pub get_set_same : {X : Type 0} (xs : List X) (i : ℕ) (x : X) → i < length xs → slice_get (slice_set xs i x) i ≡ Some x
get_set_same [] i x small = absurd (omega arith)
get_set_same (y ∷ xs) zero x small = refl
get_set_same (y ∷ xs) (suc i) x small = get_set_same xs i x (omega arith)

pub get_set_other : {X : Type 0} (xs : List X) (i j : ℕ) (x : X) → j ≢ i → slice_get (slice_set xs i x) j ≡ slice_get xs j
get_set_other [] i j x other = refl
get_set_other (y ∷ xs) zero zero x other = absurd (other refl)
get_set_other (y ∷ xs) zero (suc j) x other = refl
get_set_other (y ∷ xs) (suc i) zero x other = refl
get_set_other (y ∷ xs) (suc i) (suc j) x other = get_set_other xs i j x (λ same. other (ap suc same))

-- One library's ends become others of which this holds, and so it does of each other library's: then it holds of all.
pub ends_change : (P : ℕ → EngineEnds → Type 0) (ends more : List EngineEnds) (library : ℕ) (b a : EngineEnds) → 1 ≤ library → slice_get ends (library - 1) ≡ Some b → more ≡ slice_set ends (library - 1) a
    → ((other : ℕ) (e : EngineEnds) → other ≢ library → 1 ≤ other → slice_get ends (other - 1) ≡ Some e → P other e) → P library a
    → (other : ℕ) (e : EngineEnds) → 1 ≤ other → slice_get more (other - 1) ≡ Some e → P other e
ends_change P ends more library b a from_one found is others own other e other_from_one has =
    let at : slice_get (slice_set ends (library - 1) a) (other - 1) ≡ Some e = subst (λ (es : List EngineEnds). slice_get es (other - 1) ≡ Some e) is has in
    elim (cases_eq other library) [
      | inl same ↦ (
          let here : slice_get (slice_set ends (library - 1) a) (library - 1) ≡ Some e = subst (λ n. slice_get (slice_set ends (library - 1) a) (n - 1) ≡ Some e) same at in
          let are : a ≡ e = same_Some a e (sym (get_set_same ends (library - 1) a (slice_get_within ends (library - 1) b found)) ∙ here) in
          subst (λ n. P n e) (sym same) (subst (P library) are own))
      | inr different ↦ others other e different other_from_one (sym (get_set_other ends (library - 1) (other - 1) a (λ s. different (omega arith))) ∙ at)
    ]
