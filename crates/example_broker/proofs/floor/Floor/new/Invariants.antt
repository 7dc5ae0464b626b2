use Rattle.std.proofs.Common.{◌≡◌, length}
use Rattle.example_broker.proofs.floor.Floor.new.Given as goal

-- so many places so far
abbrev pub invariant-loop-s : goal.invariant-loop-s
invariant-loop-s l = length l.places.items ≡ l._s
