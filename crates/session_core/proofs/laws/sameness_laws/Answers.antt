use Rattle.session_core.proofs.Moments.{sameness_laws}
use Rattle.session_core.proofs.laws.sameness_laws.Goals as goal

pub returns : goal.returns
returns c = sameness_laws
