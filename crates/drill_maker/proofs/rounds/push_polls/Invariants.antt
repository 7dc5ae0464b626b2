use Rattle.std.proofs.Common.{◌≡◌, ◌++◌}
use Rattle.drill_maker.specs.Drill.{for_each, poll_steps}
use Rattle.drill_maker.proofs.rounds.push_polls.Given as goal

abbrev pub invariant-loop-k : goal.invariant-loop-k
invariant-loop-k l = l.steps.items ≡ l.initial.steps.items ++ for_each 0 l._k (poll_steps l.library)
