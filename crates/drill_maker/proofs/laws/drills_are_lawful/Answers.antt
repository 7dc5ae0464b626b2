use Rattle.drill_maker.proofs.Lawful.{lawful}
use Rattle.drill_maker.proofs.laws.drills_are_lawful.Goals as goal

pub returns : goal.returns
returns c = lawful c.frames_have_bounds.ensures.longest c.typed_texts_are_bodies.ensures
