use Rattle.engine_start.specs.Sides.{AreSides}
use Rattle.engine_start.proofs.sides.make_sides.Given as goal

-- the rings so far are those of the first seats
abbrev pub invariant-loop-seat : goal.invariant-loop-seat
invariant-loop-seat l = AreSides l.yielded l.sides
