use Rattle.session_core.proofs.States.{only_logons_reset}
use Rattle.session_core.proofs.laws.only_logons_reset.Goals as goal

pub returns : goal.returns
returns c = only_logons_reset c.line_laws.ensures
