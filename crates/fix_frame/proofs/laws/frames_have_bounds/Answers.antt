use Rattle.fix_frame.proofs.Written.{framing, longest}
use Rattle.fix_frame.proofs.laws.frames_have_bounds.Goals as goal

pub returns-clause-framing : goal.returns-clause-framing
returns-clause-framing c = framing

pub returns-clause-longest : goal.returns-clause-longest
returns-clause-longest c = longest
