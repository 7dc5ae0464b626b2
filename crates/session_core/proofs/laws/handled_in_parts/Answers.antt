use Rattle.session_core.proofs.Parts.{handled_in_parts}
use Rattle.session_core.proofs.laws.handled_in_parts.Goals as goal

pub returns : goal.returns
returns c = handled_in_parts
