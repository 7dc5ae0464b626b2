use Rattle.session_core.proofs.States.{acts_of_messages}
use Rattle.session_core.proofs.laws.acts_of_messages.Goals as goal

pub returns : goal.returns
returns c = acts_of_messages c.line_laws.ensures
