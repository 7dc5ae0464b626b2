-- A turn asks for connections that were made, and makes none.
use Rattle.std.proofs.Common.{◌≡◌, inl, inr, ℕ, zero, suc, Bool, false, List, length, Option, None, Some, refl, ap, subst, sym, ◌∙◌}
use Rattle.std.specs.Prelude.{IfSome, IfNone}
use Rattle.engine_loop.specs.Turns.{AcceptsNext, AtWire, DialsSession, MakesTurn, at_wire, with_moment}
use Rattle.engine_loop.specs.declared.engine.Engine.{Engine}
use Rattle.engine_loop.specs.declared.records.Turn.{Turn}
use Rattle.gate_io.specs.MemWire.{WireState, door_of, door_plan_of, link_at}
use Rattle.gate_io.specs.Plan.{DoorPlan}
use Rattle.gate_io.specs.Wire.{AcceptsAsPlanned, DialsAsPlanned, Door, IsPlannedAccept, IsPlannedDial, Link}
use Rattle.gate_io.specs.declared.dials.Dialled.{Dialled}
use Rattle.gate_io.specs.declared.wires.Accepted.{Accepted}
use Rattle.lease_desk.specs.Desk.{InTurn}
use Rattle.script_run.specs.Comes.{next_of}
use Rattle.script_run.proofs.Made.{same_numbers}

-- so many connections were made that come, and so many for dials, where the wire tells it
pub record Tells (coming answering : ℕ) (door : Door) : Type 0 where
  pub fails : Bool
  pub told : door.plan ≡ Some (record { coming = coming; answering = answering; accept_fails = fails })

module _ (coming answering : ℕ) where
  abbrev plan_with : Bool → DoorPlan
  plan_with fails = record { coming = coming; answering = answering; accept_fails = fails }

  accepted : (answer : Accepted) (old new : Door) (links_old links_new : ℕ → Link) → AcceptsAsPlanned old new links_old links_new answer → Tells coming answering old → Tells coming answering new
  accepted answer old new links_old links_new planned told =
      let is = subst (λ plan. IfSome plan (λ p. IsPlannedAccept p old new links_old links_new answer)) told.told planned in
      record { fails = false; told = is.behind }

  dialled : (answer : Dialled) (old new : Door) (links_old links_new : ℕ → Link) → DialsAsPlanned old new links_old links_new answer → Tells coming answering old → Tells coming answering new
  dialled answer old new links_old links_new planned told =
      let is = subst (λ plan. IfSome plan (λ p. IsPlannedDial p old new links_old links_new answer)) told.told planned in
      record { fails = told.fails; told = is.behind }

  next_accepted : (answer : Accepted) (old new : AtWire) → AcceptsNext answer old new → Tells coming answering old.door → Tells coming answering new.door
  next_accepted answer old new is told = elim is [
    | inl asks ↦ accepted answer old.door new.door old.links new.links asks.planned told
    | inr none ↦ subst (λ (a : AtWire). Tells coming answering a.door) (sym none.1.1) told
  ]

  by_answer : (answer : Option Dialled) (old new : AtWire) → IfSome answer (λ d. DialsAsPlanned old.door new.door old.links new.links d) → IfNone answer ((new.door ≡ old.door) × (new.links ≡ old.links))
      → Tells coming answering old.door → Tells coming answering new.door
  by_answer None old new planned unasked told = subst (λ (d : Door). Tells coming answering d) (sym unasked.0) told
  by_answer (Some d) old new planned unasked told = dialled d old.door new.door old.links new.links planned told

  session_dialled : (s : ℕ) (old new : AtWire) → DialsSession s old new → Tells coming answering old.door → Tells coming answering new.door
  session_dialled s old new is told = by_answer is.answer old new is.planned is.unasked told

  all_dialled : (n : ℕ) (old new : AtWire) → InTurn DialsSession n old new → Tells coming answering old.door → Tells coming answering new.door
  all_dialled zero old new same told = subst (λ (a : AtWire). Tells coming answering a.door) (sym same) told
  all_dialled (suc n) old new steps told = session_dialled n steps.0 new steps.2 (all_dialled n old steps.0 steps.1 told)

  pub turned : (reading : ℕ) (old new : AtWire) (turn : Turn) → MakesTurn reading old new turn → Tells coming answering old.door → Tells coming answering new.door
  turned reading old new turn makes told =
      let takes = makes.takes in
      let first = next_accepted makes.taken.accepted (at_wire (with_moment reading old.engine) old.door old.links) takes.accepted takes.accepts told in
      let second = all_dialled (length takes.accepted.engine.sessions.desk.board.sessions) takes.accepted takes.dialled takes.dials first in
      let third = subst (λ (d : Door). Tells coming answering d) (sym takes.door) second in
      subst (λ (d : Door). Tells coming answering d) (sym makes.gives.door) third

-- the plan that is told
some_is : (p q : DoorPlan) → Some p ≡ Some q → (p.coming ≡ q.coming) × (p.answering ≡ q.answering)
some_is p q same = (ap coming_of same, ap answering_of same) where
  coming_of : Option DoorPlan → ℕ
  coming_of (Some d) = d.coming
  coming_of None = 0

  answering_of : Option DoorPlan → ℕ
  answering_of (Some d) = d.answering
  answering_of None = 0

pub none_made : (old new : WireState) (reading : ℕ) (before after : Engine) (turn : Turn)
    → MakesTurn reading (at_wire before (door_of old) (link_at old)) (at_wire after (door_of new) (link_at new)) turn → next_of new ≡ next_of old
none_made old new reading before after turn makes =
    let told = turned (length old.links) (length old.taken) reading (at_wire before (door_of old) (link_at old)) (at_wire after (door_of new) (link_at new)) turn makes (record { fails = old.accept_fails; told = refl }) in
    let same = some_is (door_plan_of new) (record { coming = length old.links; answering = length old.taken; accept_fails = told.fails }) told.told in
    same_numbers old new same.0 same.1
