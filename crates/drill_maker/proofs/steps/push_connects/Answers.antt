use Rattle.drill_maker.specs.Drill.{connect_steps}
use Rattle.drill_maker.proofs.Ranges.{next_from_zero}
use Rattle.drill_maker.proofs.steps.push_connects.Goals as goal

pub loop-c-preserved : goal.loop-c-preserved
loop-c-preserved c =
    next_from_zero c.args.steps.now.items c.loop-c.steps.items _ c.loop-c._c connect_steps c.loop-c.invariant
    c.in_ok-push.ensures.items
