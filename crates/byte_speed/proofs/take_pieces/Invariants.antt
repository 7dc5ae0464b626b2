use Rattle.std.proofs.Common.{length}
use Rattle.fix_frame.specs.Cut.{cut}
use Rattle.byte_speed.proofs.take_pieces.Given as goal

abbrev pub decreases-loop-piece : goal.decreases-loop-piece
decreases-loop-piece l = length (cut l.cutter.limit l.cutter.held).pieces
