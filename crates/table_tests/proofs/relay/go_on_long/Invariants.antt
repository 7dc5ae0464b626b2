use Rattle.std.proofs.Common.{◌≡◌}
use Rattle.table_tests.proofs.relay.go_on_long.Given as goal

abbrev pub invariant-loop : goal.invariant-loop
invariant-loop l = l.engine.leases ≡ l.initial.engine.leases
