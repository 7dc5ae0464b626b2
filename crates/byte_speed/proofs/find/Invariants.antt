use Rattle.std.proofs.Common.{◌≤◌, length}
use Rattle.fix_frame.specs.Cutting.{free}
use Rattle.byte_speed.proofs.find.Given as goal

abbrev pub invariant-loop-rest : goal.invariant-loop-rest
invariant-loop-rest l = 4096 ≤ free l.cutter

abbrev pub decreases-loop-rest : goal.decreases-loop-rest
decreases-loop-rest l = length l.rest
