use Rattle.catchup_pump.proofs.Messages.{joined}
use Rattle.catchup_pump.proofs.laws.pumps_join.Goals as goal

pub returns : goal.returns
returns c = joined
