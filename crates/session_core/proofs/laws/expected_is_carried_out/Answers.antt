use Rattle.session_core.proofs.Good.{expected_is_carried_out}
use Rattle.session_core.proofs.laws.expected_is_carried_out.Goals as goal

pub returns : goal.returns
returns c = expected_is_carried_out c.line_laws.ensures
