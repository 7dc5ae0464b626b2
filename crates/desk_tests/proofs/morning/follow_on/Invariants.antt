use Rattle.desk_tests.specs.Running.{IsRunning}
use Rattle.desk_tests.proofs.morning.follow_on.Given as goal

abbrev pub invariant-loop-line : goal.invariant-loop-line
invariant-loop-line l = IsRunning l.shared l.desk
