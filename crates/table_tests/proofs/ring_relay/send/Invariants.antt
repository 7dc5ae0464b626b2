use Rattle.std.proofs.Common.{◌≡◌}
use Rattle.table_tests.proofs.ring_relay.send.Given as goal

abbrev pub invariant-loop : goal.invariant-loop
invariant-loop g l = (l.tail.ring ≡ l.initial.tail.ring) × (l.tail.pushed ≡ l.initial.tail.pushed) × (l.item ≡ l.initial.item)
