use Rattle.engine_start.specs.Starts.{StartsCursors}
use Rattle.engine_start.proofs.assembling.cursors.Given as goal

-- the cursors so far are made
abbrev pub invariant-loop-s : goal.invariant-loop-s
invariant-loop-s l = StartsCursors l.s l.cursors.items
