use Rattle.session_core.proofs.Forward.{numbers_go_forward}
use Rattle.session_core.proofs.laws.numbers_go_forward.Goals as goal

pub returns : goal.returns
returns c = numbers_go_forward
