use Rattle.std.proofs.Common.{◌≡◌, subst, sym}
use Rattle.session_core.specs.State.{State, heart_in}
use Rattle.session_core.specs.declared.phases.Phase.TheVariants.{On}
use Rattle.session_core.proofs.States.{next_is}
use Rattle.session_core.proofs.session.Session.receive_next.Goals as goal

pub invariant_of-self : goal.invariant_of-self
invariant_of-self c =
    let on = subst (λ (s : State). s.phase ≡ On (heart_in s.phase)) (sym c.self.view_is) c.requires.on in
    next_is c.line_laws.ensures _ _ c.next_number-expected.result _ c.in_ok-step.field-0 c.in-Some.step c.args.body.items _ c.args.moment _ c.self.invariant on c.next_number-expected.ensures.number c.in_ok-step.ensures.step c.in-Some.is c.carry_step-end.ensures.progress c.requires.moment c.last_sending-self-inside.ensures.limit
