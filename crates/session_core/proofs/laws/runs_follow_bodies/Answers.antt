use Rattle.session_core.proofs.Moments.{runs_follow_bodies}
use Rattle.session_core.proofs.laws.runs_follow_bodies.Goals as goal

pub returns : goal.returns
returns c = runs_follow_bodies
