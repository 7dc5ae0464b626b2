use Rattle.session_core.proofs.Moments.{moments_dont_matter}
use Rattle.session_core.proofs.laws.moments_dont_matter.Goals as goal

pub returns : goal.returns
returns c = moments_dont_matter
