use Rattle.std.proofs.Common.{◌≡◌}
use Rattle.wire_tests.proofs.sides.settle.Given as goal

-- a pause leaves the wire as it was
abbrev pub invariant-loop-round : goal.invariant-loop-round
invariant-loop-round l = l.wire ≡ l.initial.wire
