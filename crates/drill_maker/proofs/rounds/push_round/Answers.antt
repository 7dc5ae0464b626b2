use Rattle.std.specs.Prelude.{[], ◌∷◌}
use Rattle.script_text.specs.declared.steps.Step.TheVariants as step
use Rattle.drill_maker.specs.Drill.{for_counterparties, for_libraries, order_steps, request_steps, round_steps, work_steps}
use Rattle.drill_maker.proofs.Ranges.{three_parts}
use Rattle.drill_maker.proofs.rounds.push_round.Goals as goal

pub returns : goal.returns
unfolding round_steps
returns c =
    rw (c.in_ok-push-3.ensures.items, c.in_ok-push_works.ensures, c.in_ok-push-2.ensures.items, c.in_ok-push_orders.ensures, c.in_ok-push.ensures.items, c.in_ok-push_requests.ensures)
    (three_parts c.args.steps.now.items (for_libraries (request_steps c.args.round)) (for_counterparties (order_steps c.args.round)) (for_libraries (work_steps c.args.round)) (step.Turn ∷ []))
