use Rattle.catchup_pump.proofs.Messages.{grown}
use Rattle.catchup_pump.proofs.laws.logs_grow.Goals as goal

pub returns : goal.returns
returns c = grown
