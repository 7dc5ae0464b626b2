use Rattle.session_core.proofs.States.{leave_is}
use Rattle.session_core.proofs.session.Session.leave.Goals as goal

pub invariant_of-self : goal.invariant_of-self
invariant_of-self c = rw c.clear.ensures (leave_is c.line_laws.ensures _ c.self.invariant)
