use Rattle.drill_maker.specs.Drill.{round_steps}
use Rattle.drill_maker.proofs.Ranges.{next_from_zero}
use Rattle.drill_maker.proofs.drilling.push_rounds.Goals as goal

pub loop-round-preserved : goal.loop-round-preserved
loop-round-preserved c =
    next_from_zero c.args.steps.now.items c.loop-round.steps.items _ c.loop-round.round round_steps c.loop-round.invariant
    c.in_ok-push_round.ensures
