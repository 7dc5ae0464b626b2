use Rattle.std.proofs.Common.{◌≡◌}
use Rattle.table_tests.proofs.ring_relay.receive.Given as goal

abbrev pub invariant-loop : goal.invariant-loop
invariant-loop g l = (l.head.ring ≡ l.initial.head.ring) × (l.head.popped ≡ l.initial.head.popped)
