-- On a bound session the expected number never falls.
use Rattle.std.proofs.Common.{◌≡◌, ℕ, zero, suc, ◌+◌, ◌≤◌, Bool, true, false, List, [], sym, subst, refl, arith, if◌then◌else◌}
use Rattle.std.specs.Prelude.{Option, None, Some, nat_le, ◌&&◌, is_some}
use Rattle.std.specs.FinMap.{get, remove}
use Rattle.std.specs.List.{list_any}
use Rattle.std.specs.Option.{option_to_list}
use Rattle.std.specs.Result.{result_ok}
use Rattle.std.proofs.lemmas.Bool.Decides.{nat_tests}
use Rattle.fix_fields.specs.Reading.{fields_of}
use Rattle.seq_gaps.specs.declared.offered.Offered.{Offered}
use Rattle.seq_gaps.specs.declared.offered.Place.{Place}
use Rattle.seq_gaps.specs.declared.offered.Place.TheVariants.{Now, Held, Known, NoRoom}
use Rattle.seq_gaps.specs.declared.offered.TheConstants.{HELD_LIMIT, MAX_NUMBER}
use Rattle.seq_gaps.specs.Line.{Line, after_fill}
use Rattle.seq_gaps.specs.Offers.{answer_to_offer, after_offer, place_of, after_placing}
use Rattle.session_core.specs.declared.acts.Act.TheVariants.{Accept}
use Rattle.session_core.specs.declared.phases.Phase.{Phase}
use Rattle.session_core.specs.declared.phases.Phase.TheVariants.{On}
use Rattle.session_core.specs.declared.steps.Step.{Step}
use Rattle.session_core.specs.declared.steps.Step.TheVariants.{Ignore, Refuse, Close, Move, Deliver, Handle}
use Rattle.session_core.specs.declared.tasks.Task.{Task}
use Rattle.session_core.specs.declared.tasks.Task.TheVariants.{Nothing, Do, Fill}
use Rattle.session_core.specs.Carry.{Progress, after_carrying, after_ready, while_ready, after_draining, after_fill_to, on_place, after_handling, after_step}
use Rattle.session_core.specs.Receive.{Outcome, outcome_of_step, step_in, outcome_in, outcome, after_outcome, is_send}
use Rattle.session_core.specs.Laws.{NumbersGoForward}
use Rattle.session_core.specs.State.{State}

forward-either : (line : Line Task) (to : ℕ) (low : Bool) → (low ≡ true → line.expected ≤ to) → line.expected ≤ (if low then after_fill line to else line).expected
forward-either line to true up = up refl
forward-either line to false up = omega arith

test-low : (a b c d : ℕ) → (nat_le a b && nat_le c d) ≡ true → a ≤ b
test-low a b c d both = grind (arith, nat_tests, both)

forward-filled : (line : Line Task) (to : ℕ) → line.expected ≤ (after_fill_to line to).expected
unfolding after_fill_to
forward-filled line to =
    forward-either line to (nat_le line.expected to && nat_le to (MAX_NUMBER + 1)) (test-low line.expected to to (MAX_NUMBER + 1))

forward-carried : (p : Progress) (task : Task) → p.line.expected ≤ (after_carrying p task).line.expected
forward-carried p Nothing = omega arith
forward-carried p (Do act) = omega arith
forward-carried p (Fill to) = forward-filled p.line to

forward-took : (line : Line Task) (ready : Bool) → line.expected ≤ (if ready then record { expected = line.expected + 1; held = remove line.held line.expected; horizon = line.horizon } else line).expected
forward-took line true = omega arith
forward-took line false = omega arith

forward-taken : (p : Progress) → p.line.expected ≤ (after_ready p).line.expected
forward-taken p = forward-took p.line (is_some (get p.line.held p.line.expected))

forward-while : (p : Progress) (ready : Option Task) (go_on : Progress → Progress) → ((q : Progress) → q.line.expected ≤ (go_on q).line.expected) → p.line.expected ≤ (while_ready go_on p ready).line.expected
forward-while p None go_on up = omega arith
forward-while p (Some task) go_on up =
    let one = forward-taken p in
    let two = forward-carried (after_ready p) task in
    let three = up (after_carrying (after_ready p) task) in
    omega (arith, one, two, three)

forward-drained : (most : ℕ) (p : Progress) → p.line.expected ≤ (after_draining most p).line.expected
unfolding after_draining
forward-drained zero p = omega arith
forward-drained (suc most) p = forward-while p (get p.line.held p.line.expected) (after_draining most) (forward-drained most)

forward-placed : (line : Line Task) (n : ℕ) (task : Task) (place : Place Task) → line.expected ≤ (after_placing line n task place).expected
forward-placed line n task (Now _) = omega arith
forward-placed line n task Held = omega arith
forward-placed line n task (Known _) = omega arith
forward-placed line n task (NoRoom _) = omega arith

forward-on_place : (p : Progress) (answer : Offered Task) (place : Place Task) → p.line.expected ≤ (on_place p answer place).line.expected
forward-on_place p answer (Now task) =
    let one = forward-carried p task in
    let two = forward-drained HELD_LIMIT (after_carrying p task) in
    omega (arith, one, two)
forward-on_place p answer Held = omega arith
forward-on_place p answer (Known _) = omega arith
forward-on_place p answer (NoRoom _) = omega arith

forward-handled : (p : Progress) (n : ℕ) (task : Task) → p.line.expected ≤ (after_handling p n task).line.expected
unfolding after_handling
forward-handled p n task =
    let one = forward-placed p.line n task (place_of p.line n task) in
    let two = forward-on_place (record { line = after_offer p.line n task; acts = p.acts }) (answer_to_offer p.line n task) (place_of p.line n task) in
    omega (arith, one, two)

forward-closed : (line : Line Task) (counts : Bool) → line.expected ≤ (if counts then after_fill_to line (line.expected + 1) else line).expected
forward-closed line true = forward-filled line (line.expected + 1)
forward-closed line false = omega arith

forward-step : (line : Line Task) (step : Step) (body : List ℕ) → line.expected ≤ (after_step line step body).line.expected
forward-step line Ignore body = omega arith
forward-step line (Refuse reject) body = omega arith
forward-step line (Close first last cause counts) body = forward-closed line counts
forward-step line (Move to) body =
    let one = forward-filled line to in
    let two = forward-drained HELD_LIMIT (record { line = after_fill_to line to; acts = [] }) in
    omega (arith, one, two)
forward-step line (Deliver n) body = forward-handled (record { line = line; acts = [] }) n (Do (Accept body))
forward-step line (Handle n at_once task) body = forward-handled (record { line = line; acts = option_to_list at_once }) n task

forward-on_step : (state : State) (body : List ℕ) (step : Option Step) → state.line.expected ≤ (outcome_of_step state body step).line.expected
forward-on_step state body None = omega arith
forward-on_step state body (Some step) = forward-step state.line step body

forward-outcome : (state : State) (body : List ℕ) (heart : ℕ) → state.phase ≡ On heart → state.line.expected ≤ (outcome state body).line.expected
unfolding outcome
forward-outcome state body heart on =
    subst (λ (phase : Phase). state.line.expected ≤ (outcome_in phase state body (result_ok (fields_of body))).line.expected) (sym on)
    (forward-on_step state body (step_in state.names state.line.expected (result_ok (fields_of body))))

line-stamped : (state : State) (o : Outcome) (m : ℕ) → state.line.expected ≤ o.line.expected → state.line.expected ≤ (after_outcome state o m).line.expected
line-stamped state o m up =
    elim o.heard as (λ heard. state.line.expected ≤ (if heard then record state { phase = o.phase; line = o.line; received = m; sent = if list_any is_send o.effects.acts then m else state.sent; waiting = None } else state).line.expected)
    [ true ↦ up | false ↦ omega arith ]

pub numbers_go_forward : NumbersGoForward
numbers_go_forward state body m heart on = line-stamped state (outcome state body) m (forward-outcome state body heart on)
