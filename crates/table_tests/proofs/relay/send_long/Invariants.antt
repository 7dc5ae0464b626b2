use Rattle.std.proofs.Common.{◌≡◌}
use Rattle.table_tests.proofs.relay.send_long.Given as goal

abbrev pub invariant-loop : goal.invariant-loop
invariant-loop l = l.library.leases ≡ l.initial.library.leases
