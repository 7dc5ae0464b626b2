use Rattle.std.proofs.Common.{◌≡◌, ◌≤◌}
use Rattle.ring_speed.proofs.send.Given as goal

abbrev pub invariant-loop : goal.invariant-loop
invariant-loop g l = (l.tail.ring ≡ l.ring) × (l.number ≤ l.count)
