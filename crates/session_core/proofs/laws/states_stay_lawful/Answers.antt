use Rattle.session_core.proofs.States.{states_stay_lawful}
use Rattle.session_core.proofs.laws.states_stay_lawful.Goals as goal

pub returns : goal.returns
returns c = states_stay_lawful c.line_laws.ensures
