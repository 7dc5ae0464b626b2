use Rattle.std.proofs.Common.{◌≡◌, ◌++◌, take, drop, vec_capacity}
use Rattle.ring_links.proofs.queue.Ring.pop_told.Given as goal

abbrev pub invariant-loop : goal.invariant-loop
invariant-loop g l =
    (l.head.ring ≡ l.initial.head.ring)
    × (l.head.popped ≡ l.initial.head.popped ++ take l.counter l.initial.head.told)
    × (l.head.told ≡ drop l.counter l.initial.head.told)
    × (l.items.items ≡ l.initial.items.items ++ take l.counter l.initial.head.told)
    × (vec_capacity l.items ≡ vec_capacity l.initial.items)
