use Rattle.std.proofs.Common.{◌≡◌, length}
use Rattle.connection_tests.proofs.taking.drain.Given as goal

-- it stands, and fewer bytes are held after each piece
abbrev pub invariant-loop-piece : goal.invariant-loop-piece
invariant-loop-piece l = l.connection.cause ≡ l.initial.connection.cause

abbrev pub decreases-loop-piece : goal.decreases-loop-piece
decreases-loop-piece l = length l.connection.held
