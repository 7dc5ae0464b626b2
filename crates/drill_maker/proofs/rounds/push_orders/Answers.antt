use Rattle.std.proofs.Common.{◌∙◌, ap, [], ◌∷◌, ◌++◌}
use Rattle.script_text.specs.declared.steps.Step.TheVariants as step
use Rattle.drill_maker.specs.Drill.{order_steps}
use Rattle.drill_maker.proofs.Ranges.{next_from_zero}
use Rattle.drill_maker.proofs.rounds.push_orders.Goals as goal

pub loop-c-preserved : goal.loop-c-preserved
loop-c-preserved c =
    next_from_zero c.args.steps.now.items c.loop-c.steps.items _ c.loop-c.c (order_steps c.args.round) c.loop-c.invariant
    (c.in_ok-push.ensures.items ∙ ap (λ body. c.loop-c.steps.items ++ step.Frame c.loop-c.c body ∷ []) c.in_ok-body.ensures)
