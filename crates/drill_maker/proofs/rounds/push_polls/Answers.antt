use Rattle.drill_maker.specs.Drill.{poll_steps}
use Rattle.drill_maker.proofs.Ranges.{next_from_zero}
use Rattle.drill_maker.proofs.rounds.push_polls.Goals as goal

pub loop-k-preserved : goal.loop-k-preserved
loop-k-preserved c =
    next_from_zero c.args.steps.now.items c.loop-k.steps.items _ c.loop-k._k (poll_steps c.args.library) c.loop-k.invariant
    c.in_ok-push.ensures.items
