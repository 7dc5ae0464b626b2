use Rattle.desk_tests.specs.Running.{IsRunning}
use Rattle.desk_tests.proofs.comings.orders.Given as goal

abbrev pub invariant-loop-number : goal.invariant-loop-number
invariant-loop-number l = IsRunning l.shared l.desk
