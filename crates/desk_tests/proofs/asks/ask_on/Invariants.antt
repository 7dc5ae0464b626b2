use Rattle.desk_tests.specs.Outset.{IsOpen}
use Rattle.desk_tests.proofs.asks.ask_on.Given as goal

abbrev pub invariant-loop-line : goal.invariant-loop-line
invariant-loop-line l = IsOpen l.shared l.desk
