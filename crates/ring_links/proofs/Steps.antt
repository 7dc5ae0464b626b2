-- The steps as the calls make them: the table's key is the number of its slots, and a seat is known by an equation.
use Rattle.std.proofs.Common.{◌≡◌, ℕ, ◌+◌, ◌%◌, [], ◌∷◌, length, Option, Some, None, sym, ap, ◌∙◌, subst}
use mathlib.Core.Option.{none}
use Rattle.atomic_table.specs.Table.{rest, step, Allows}
use Rattle.ring_links.specs.declared.view.Pushing.{Pushing}
use Rattle.ring_links.specs.declared.view.Popping.{Popping}
use Rattle.ring_links.specs.declared.view.View.{View}
use Rattle.ring_links.specs.Order.{Queue, Seated, tail_view, head_view, both_view, LookTells, ClaimTells, PushTells, FetchTells, ReleaseTells, MeetingTells}
use Rattle.ring_links.proofs.TailSteps.{looks_at, claims_at, pushes_at}
use Rattle.ring_links.proofs.HeadSteps.{fetches_at, releases_at}
use Rattle.ring_links.proofs.Meeting.{compares_at}

module _ {T : Type 0} (n slots id : ℕ) (key : n ≡ slots) where
  pub looks_step : (me : Seated T) (t : Pushing T) → me ≡ (tail_view t, []) → t.out ≡ 0 → Allows (Queue n) slots id me 1 (λ y. y) (LookTells (step slots 1 0 0 none) me)
  looks_step me t is rests =
      subst (λ (x : ℕ × Seated T). Allows (Queue x.0) slots id x.1 1 (λ y. y) (LookTells (step slots 1 0 0 none) x.1)) (λ i. (sym key i, sym is i)) (looks_at slots id t rests)

  pub claims_step : (me : Seated T) (t : Pushing T) → me ≡ (tail_view t, []) → t.out ≡ 0 → Allows (Queue n) slots id me 1 (λ y. y) (ClaimTells (step slots 1 0 0 none) me)
  claims_step me t is rests =
      subst (λ (x : ℕ × Seated T). Allows (Queue x.0) slots id x.1 1 (λ y. y) (ClaimTells (step slots 1 0 0 none) x.1)) (λ i. (sym key i, sym is i)) (claims_at slots id t rests)

  pub pushes_step : (me : Seated T) (t : Pushing T) (i new : ℕ) (x : T) → me ≡ (tail_view t, (i, Some x) ∷ []) → i ≡ length t.items % slots → t.out ≡ 1 → new ≡ length t.items + 1
      → Allows (Queue n) slots id me 0 (λ _. new) (λ _. PushTells (step slots 0 new 0 none) me new)
  pushes_step me t i new x is place filling one_more =
      let same : me ≡ (tail_view t, (length t.items % slots, Some x) ∷ []) = is ∙ ap (λ (k : ℕ). (tail_view t, (k, Some x) ∷ [])) place in
      subst (λ (y : ℕ × Seated T). Allows (Queue y.0) slots id y.1 0 (λ _. new) (λ _. PushTells (step slots 0 new 0 none) y.1 new)) (λ i. (sym key i, sym same i)) (pushes_at slots id t x new filling one_more)

  pub fetches_step : (me : Seated T) (h : Popping T) → me ≡ (head_view h, []) → h.out ≡ 0 → Allows (Queue n) slots id me 0 (λ y. y) (FetchTells (step slots 0 0 0 none) me)
  fetches_step me h is rests =
      subst (λ (x : ℕ × Seated T). Allows (Queue x.0) slots id x.1 0 (λ y. y) (FetchTells (step slots 0 0 0 none) x.1)) (λ i. (sym key i, sym is i)) (fetches_at slots id h rests)

  pub releases_step : (me : Seated T) (h : Popping T) (i k new : ℕ) → me ≡ (head_view h, (i, None) ∷ []) → i ≡ k % slots → h.out ≡ 1 → new ≡ length h.items → k + 1 ≡ length h.items
      → Allows (Queue n) slots id me 1 (λ _. new) (λ _. ReleaseTells (step slots 1 new 0 none) me new)
  releases_step me h i k new is place emptying new_is last =
      let same : me ≡ (head_view h, (k % slots, None) ∷ []) = is ∙ ap (λ (z : ℕ). (head_view h, (z, None) ∷ [])) place in
      subst (λ (y : ℕ × Seated T). Allows (Queue y.0) slots id y.1 1 (λ _. new) (λ _. ReleaseTells (step slots 1 new 0 none) y.1 new)) (λ i. (sym key i, sym same i)) (releases_at slots id h k new emptying new_is last)

  pub compares_step : (me : Seated T) (t : Pushing T) (h : Popping T) → me ≡ (both_view t h, []) → h.out ≡ 0 → Allows (Queue n) slots id me 0 (λ y. y) (MeetingTells (step slots 0 0 0 none) me)
  compares_step me t h is rests =
      subst (λ (x : ℕ × Seated T). Allows (Queue x.0) slots id x.1 0 (λ y. y) (MeetingTells (step slots 0 0 0 none) x.1)) (λ i. (sym key i, sym is i)) (compares_at slots id t h rests)

-- a seat after the exchange of the one slot that it holds
pub exchanged : {T : Type 0} (me me' : Seated T) (v : View T) (i k : ℕ) (x y : Option T) → me ≡ (v, (k, x) ∷ []) → me' ≡ (me.0, (i, y) ∷ rest me.1) → me' ≡ (v, (i, y) ∷ [])
exchanged {T} me me' v i k x y was is = is ∙ ap (λ (m : Seated T). (m.0, (i, y) ∷ rest m.1)) was

-- the slot that it held
pub first_slot : {T : Type 0} (me : Seated T) (v : View T) (i k : ℕ) (x : Option T) → me ≡ (v, (k, x) ∷ []) → k ≡ i → me.1 ≡ (i, x) ∷ rest me.1
first_slot {T} me v i k x was place = ap (λ (m : Seated T). m.1) was ∙ (λ j. (place j, x) ∷ sym (ap (λ (m : Seated T). rest m.1) was) j)
