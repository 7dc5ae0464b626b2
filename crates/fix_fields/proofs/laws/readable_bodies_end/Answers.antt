use Rattle.fix_fields.proofs.Ended.{readable_bodies_end}
use Rattle.fix_fields.proofs.laws.readable_bodies_end.Goals as goal

pub returns : goal.returns
returns c = readable_bodies_end
