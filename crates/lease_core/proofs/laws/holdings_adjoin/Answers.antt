use Rattle.lease_core.proofs.Kept.{lawful}
use Rattle.lease_core.proofs.laws.holdings_adjoin.Goals as goal

pub returns : goal.returns
returns c = λ limit entries run. (lawful limit entries run).adjoining
