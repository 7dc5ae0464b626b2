use Rattle.session_core.proofs.TickFacts.{acts_of_ticks}
use Rattle.session_core.proofs.laws.acts_of_ticks.Goals as goal

pub returns : goal.returns
returns c = acts_of_ticks
