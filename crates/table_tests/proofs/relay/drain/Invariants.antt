use Rattle.std.proofs.Common.{◌≡◌}
use Rattle.table_tests.proofs.relay.drain.Given as goal

abbrev pub invariant-loop : goal.invariant-loop
invariant-loop l = l.engine.leases ≡ l.initial.engine.leases
