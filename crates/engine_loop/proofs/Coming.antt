-- How many connections are listed that aren't closed.
use Rattle.std.proofs.Common.{◌≡◌, ◌⊎◌, inl, inr, ℕ, zero, suc, ◌+◌, ◌<◌, ◌≤◌, List, length, Option, None, Some, arith, refl, sym, ap, subst}
use Rattle.std.proofs.lemmas.List.{length_push}
use Rattle.std.specs.Prelude.{IfNone, IfSome}
use Rattle.engine_loop.specs.Turns.{accepted_after}
use Rattle.gate_io.specs.Wire.{Accepts, Dials as TheWireDials, Door, Link}
use Rattle.gate_io.specs.declared.dials.Dialled.{Dialled}
use Rattle.gate_io.specs.declared.dials.Dialled.TheVariants as dial
use Rattle.gate_io.specs.declared.wires.Accepted.{Accepted}
use Rattle.gate_io.specs.declared.wires.Accepted.TheVariants as accept
use Rattle.lease_desk.specs.declared.desk.LeaseDesk.{LeaseDesk}
use Rattle.switchboard.specs.Board.{Board}
use Rattle.switchboard.specs.Going.{GoesOnTo}
use Rattle.switchboard.specs.Happenings.{Happening, Happens, accepts}
use Rattle.wire_desk.specs.Steps.{AcceptsAs}
use Rattle.wire_desk.specs.Dials.{DialsAs, WaitsBy, plan_at}
use Rattle.wire_desk.specs.Places.{dialled_behind, listed_behind}
use Rattle.wire_desk.specs.declared.dialling.Dialler.{Dialler}

-- not more are listed than were accepted
pub few_listed : (answer : Accepted) (place count : ℕ) (places : List ℕ) → length places ≤ count → length (listed_behind answer place places) ≤ accepted_after answer count
few_listed (accept.New number) place count places few = (let one = length_push places place in omega arith)
few_listed accept.Nothing place count places few = few
few_listed accept.Failed place count places few = few

waits_made : (plan : Option Rattle.engine_config.specs.declared.config.DialTo.DialTo) (s at : ℕ) (old new : Dialler) → WaitsBy plan s at old new → new.made ≡ old.made
waits_made None s at old new waits = ap (λ (d : Dialler). d.made) waits
waits_made (Some plan) s at old new waits = ap (λ (d : Dialler). d.made) waits.rest

-- and not more than were dialled
pub few_dialled : (answer : Option Dialled) (s at until place : ℕ) (old new : LeaseDesk) (d_old d_new : Dialler) (places : List ℕ) → DialsAs answer s at until old new d_old d_new → length places ≤ d_old.made
    → length (dialled_behind answer place places) ≤ d_new.made
few_dialled None s at until place old new d_old d_new places dials few = (let same = ap (λ (d : Dialler). d.made) dials.1.1 in omega arith)
few_dialled (Some dial.Failed) s at until place old new d_old d_new places dials few = (let same = waits_made (plan_at d_old s) s at d_old d_new dials.1.1 in omega arith)
few_dialled (Some (dial.New number)) s at until place old new d_old d_new places dials few =
    (let one = length_push places place in let made = ap (λ (d : Dialler). d.made) dials.1.1 in omega arith)

-- nor did more come than were accepted and dialled
pub few_came : (answer : Option Dialled) (s at until accepted : ℕ) (old new : LeaseDesk) (d_old d_new : Dialler) → DialsAs answer s at until old new d_old d_new → length new.board.connections ≤ length old.board.connections + 1
    → length old.board.connections ≤ accepted + d_old.made → length new.board.connections ≤ accepted + d_new.made
few_came None s at until accepted old new d_old d_new dials one few = (let same = ap (λ (d : LeaseDesk). length d.board.connections) dials.1.0 in let made = ap (λ (d : Dialler). d.made) dials.1.1 in omega arith)
few_came (Some dial.Failed) s at until accepted old new d_old d_new dials one few =
    (let same = ap (λ (d : LeaseDesk). length d.board.connections) dials.1.0 in let made = waits_made (plan_at d_old s) s at d_old d_new dials.1.1 in omega arith)
few_came (Some (dial.New number)) s at until accepted old new d_old d_new dials one few = (let made = ap (λ (d : Dialler). d.made) dials.1.1 in omega arith)

waits_most : (plan : Option Rattle.engine_config.specs.declared.config.DialTo.DialTo) (s at : ℕ) (old new : Dialler) → WaitsBy plan s at old new → new.most ≡ old.most
waits_most None s at old new waits = ap (λ (d : Dialler). d.most) waits
waits_most (Some plan) s at old new waits = ap (λ (d : Dialler). d.most) waits.rest

-- as many may be dialled as before
pub most_stays : (answer : Option Dialled) (s at until : ℕ) (old new : LeaseDesk) (d_old d_new : Dialler) → DialsAs answer s at until old new d_old d_new → d_new.most ≡ d_old.most
most_stays None s at until old new d_old d_new dials = ap (λ (d : Dialler). d.most) dials.1.1
most_stays (Some dial.Failed) s at until old new d_old d_new dials = waits_most (plan_at d_old s) s at d_old d_new dials.1.1
most_stays (Some (dial.New number)) s at until old new d_old d_new dials = ap (λ (d : Dialler). d.most) dials.1.1

-- sessions and connections go on, whatever the wire answers
pub goes_by : ((happening : Happening) (old new : Board) → Happens happening old new → GoesOnTo old new) → ((board : Board) → GoesOnTo board board) → (answer : Accepted) (at : ℕ) (old new : LeaseDesk)
    → AcceptsAs answer at old new → GoesOnTo old.board new.board
goes_by law itself (accept.New number) at old new is = law (accepts number at) old.board new.board is.0
goes_by law itself accept.Nothing at old new is = subst (λ (d : LeaseDesk). GoesOnTo old.board d.board) (sym is) (itself old.board)
goes_by law itself accept.Failed at old new is = subst (λ (d : LeaseDesk). GoesOnTo old.board d.board) (sym is) (itself old.board)

-- an accept dials nothing, and counts itself
pub dialled_stays : (answer : Accepted) (before after : Door) (links : ℕ → Link) → Accepts before after links answer → after.dialled ≡ before.dialled
dialled_stays (accept.New number) before after links is = ap (λ (d : Door). d.dialled) is.1
dialled_stays accept.Nothing before after links is = ap (λ (d : Door). d.dialled) is.0
dialled_stays accept.Failed before after links is = ap (λ (d : Door). d.dialled) is.0

pub accepted_counts : (answer : Accepted) (before after : Door) (links : ℕ → Link) → Accepts before after links answer → after.accepted ≡ accepted_after answer before.accepted
accepted_counts (accept.New number) before after links is = ap (λ (d : Door). d.accepted) is.1
accepted_counts accept.Nothing before after links is = ap (λ (d : Door). d.accepted) is.0
accepted_counts accept.Failed before after links is = ap (λ (d : Door). d.accepted) is.0

-- a dial accepts nothing
pub accepted_stays : {S : Type 0} (door : S → Door) (answer : Option Dialled) (old new : S) (links : ℕ → Link) → IfNone answer (new ≡ old) → IfSome answer (λ dialled. TheWireDials (door old) (door new) links dialled)
    → (door new).accepted ≡ (door old).accepted
accepted_stays door None old new links unasked is = ap (λ s. (door s).accepted) unasked
accepted_stays door (Some (dial.New number)) old new links unasked is = ap (λ (d : Door). d.accepted) is.1
accepted_stays door (Some dial.Failed) old new links unasked is = ap (λ (d : Door). d.accepted) is.0

-- one of the first so many and one more
pub before_or_last : (j n : ℕ) → j < n + 1 → (j < n) ⊎ (j ≡ n)
before_or_last zero zero small = inr refl
before_or_last zero (suc n) small = inl (omega arith)
before_or_last (suc j) zero small = absurd (omega arith)
before_or_last (suc j) (suc n) small = elim (before_or_last j n (omega arith)) [
  | inl less ↦ inl (omega arith)
  | inr same ↦ inr (ap suc same)
]
