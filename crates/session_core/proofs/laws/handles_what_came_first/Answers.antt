use Rattle.session_core.proofs.Prefixes.{handles_what_came_first}
use Rattle.session_core.proofs.laws.handles_what_came_first.Goals as goal

pub returns : goal.returns
returns c = handles_what_came_first
