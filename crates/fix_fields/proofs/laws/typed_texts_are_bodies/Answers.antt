use Rattle.fix_fields.proofs.Ended.{typed_texts_are_bodies}
use Rattle.fix_fields.proofs.laws.typed_texts_are_bodies.Goals as goal

pub returns : goal.returns
returns c = typed_texts_are_bodies
