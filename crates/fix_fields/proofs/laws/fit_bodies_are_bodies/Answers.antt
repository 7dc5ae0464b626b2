use Rattle.fix_fields.proofs.Ended.{fit_bodies_are_bodies}
use Rattle.fix_fields.proofs.laws.fit_bodies_are_bodies.Goals as goal

pub returns : goal.returns
returns c = fit_bodies_are_bodies
