use Rattle.std.proofs.Common.{sym}
use Rattle.fix_frame.proofs.Cutting.{so_far-all}
use Rattle.fix_frame.proofs.laws.feedings_give_the_same_pieces.Goals as goal

pub returns : goal.returns
returns c = λ limit text given held h none. sym (so_far-all limit text given held none h)
