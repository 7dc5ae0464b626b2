use Rattle.std.proofs.Common.{◌≡◌, ◌++◌}
use Rattle.drill_maker.specs.Drill.{for_each, logon_steps}
use Rattle.drill_maker.proofs.steps.push_logons.Given as goal

abbrev pub invariant-loop-c : goal.invariant-loop-c
invariant-loop-c l = l.steps.items ≡ l.initial.steps.items ++ for_each 0 l.c logon_steps
