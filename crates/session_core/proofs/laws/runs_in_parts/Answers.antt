use Rattle.session_core.proofs.Parts.{runs_in_parts}
use Rattle.session_core.proofs.laws.runs_in_parts.Goals as goal

pub returns : goal.returns
returns c = runs_in_parts
