use Rattle.std.proofs.Common.{◌≡◌, ◌++◌}
use Rattle.drill_maker.specs.Drill.{for_each, request_steps}
use Rattle.drill_maker.proofs.rounds.push_requests.Given as goal

abbrev pub invariant-loop-before : goal.invariant-loop-before
invariant-loop-before l = l.steps.items ≡ l.initial.steps.items ++ for_each 1 l.before (request_steps l.round)
