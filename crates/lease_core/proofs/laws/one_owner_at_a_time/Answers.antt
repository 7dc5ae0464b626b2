use Rattle.lease_core.proofs.Kept.{lawful}
use Rattle.lease_core.proofs.laws.one_owner_at_a_time.Goals as goal

pub returns : goal.returns
returns c = λ limit entries run. ((lawful limit entries run).one_runs, (lawful limit entries run).few)
