use Rattle.session_core.proofs.Left.{leaves_none_ready}
use Rattle.session_core.proofs.laws.leaves_none_ready.Goals as goal

pub returns : goal.returns
returns c = leaves_none_ready c.line_laws.ensures
