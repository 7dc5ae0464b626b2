use Rattle.drill_maker.specs.Drill.{work_steps}
use Rattle.drill_maker.proofs.Ranges.{next_from_one}
use Rattle.drill_maker.proofs.rounds.push_works.Goals as goal

pub loop-before-preserved : goal.loop-before-preserved
loop-before-preserved c =
    next_from_one c.args.steps.now.items c.loop-before.steps.items _ c.loop-before.before (work_steps c.args.round) c.loop-before.invariant
    c.in_ok-push_work.ensures
