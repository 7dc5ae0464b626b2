use Rattle.session_core.proofs.PhaseFacts.{phases_follow}
use Rattle.session_core.proofs.laws.phases_follow.Goals as goal

pub returns : goal.returns
returns c = phases_follow
