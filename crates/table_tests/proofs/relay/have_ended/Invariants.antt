use Rattle.std.proofs.Common.{◌≡◌}
use Rattle.table_tests.proofs.relay.have_ended.Given as goal

abbrev pub invariant-loop-library : goal.invariant-loop-library
invariant-loop-library l = l.engine.leases ≡ l.initial.engine.leases
