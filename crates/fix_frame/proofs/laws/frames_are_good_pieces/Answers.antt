use Rattle.std.proofs.Common.{arith}
use Rattle.fix_frame.proofs.Told.{frame-cut, one_body}
use Rattle.fix_frame.proofs.Written.{frame_is, length-frame}
use Rattle.fix_frame.proofs.laws.frames_are_good_pieces.Goals as goal

pub returns-clause-cut : goal.returns-clause-cut
returns-clause-cut c = frame-cut

pub returns-clause-one_body : goal.returns-clause-one_body
returns-clause-one_body c = one_body

pub returns-clause-written : goal.returns-clause-written
returns-clause-written c = λ limit body most is short. frame_is limit body is short (omega (arith, length-frame body))
