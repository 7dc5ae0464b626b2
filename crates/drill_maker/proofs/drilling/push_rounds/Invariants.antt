use Rattle.std.proofs.Common.{◌≡◌, ◌++◌}
use Rattle.drill_maker.specs.Drill.{for_each, round_steps}
use Rattle.drill_maker.proofs.drilling.push_rounds.Given as goal

abbrev pub invariant-loop-round : goal.invariant-loop-round
invariant-loop-round l = l.steps.items ≡ l.initial.steps.items ++ for_each 0 l.round round_steps
