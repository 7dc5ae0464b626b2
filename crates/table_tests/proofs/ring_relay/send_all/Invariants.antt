use Rattle.std.proofs.Common.{◌≡◌, ◌++◌}
use Rattle.table_tests.proofs.ring_relay.send_all.Given as goal

abbrev pub invariant-loop-item : goal.invariant-loop-item
invariant-loop-item g l = (l.tail.ring ≡ l.ring) × (l.tail.pushed ≡ l.initial.tail.pushed ++ l.yielded)
