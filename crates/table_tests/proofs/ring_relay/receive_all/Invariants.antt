use Rattle.std.proofs.Common.{◌≡◌, ◌++◌, vec_len, vec_capacity}
use Rattle.table_tests.proofs.ring_relay.receive_all.Given as goal

abbrev pub invariant-loop : goal.invariant-loop
invariant-loop g l =
    (l.head.ring ≡ l.ring)
    × (l.head.popped ≡ l.initial.head.popped ++ l.items.items)
    × (vec_len l.items ≡ l.counter)
    × (vec_capacity l.items ≡ vec_capacity l.initial.items)
