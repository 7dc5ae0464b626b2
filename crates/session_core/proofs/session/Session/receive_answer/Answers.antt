use Rattle.std.proofs.Common.{◌≡◌, ℕ, subst, sym}
use Rattle.std.specs.Prelude.{Result, IfOk}
use Rattle.seq_gaps.specs.Line.{IsNumber}
use Rattle.session_core.specs.State.{State}
use Rattle.session_core.specs.declared.causes.Cause.{Cause}
use Rattle.session_core.specs.declared.phases.Phase.TheVariants.{Asked}
use Rattle.session_core.proofs.States.{answered_is}
use Rattle.session_core.proofs.session.Session.receive_answer.Goals as goal

pub invariant_of-self-in-Ok : goal.invariant_of-self-in-Ok
invariant_of-self-in-Ok c =
    let asked = subst (λ (s : State). s.phase ≡ Asked c.args.heart) (sym c.self.view_is) c.requires.asked in
    let number = subst (λ (r : Result ℕ Cause). IfOk r IsNumber) c.in-Ok.is c.in_ok-number.ensures.number in
    answered_is c.line_laws.ensures _ c.args.heart c.in-Ok.number _ c.args.moment _ c.self.invariant asked number c.in_ok-effects-in-Ok.ensures.line c.requires.moment c.last_sending-self-inside.ensures.limit
