use Rattle.session_core.proofs.Rises.{rises_by_what_is_held}
use Rattle.session_core.proofs.laws.rises_by_what_is_held.Goals as goal

pub returns : goal.returns
returns c = rises_by_what_is_held c.line_laws.ensures
