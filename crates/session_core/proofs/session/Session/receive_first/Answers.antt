use Rattle.std.proofs.Common.{◌≡◌, subst, sym}
use Rattle.std.specs.Prelude.{Option, IfSome}
use Rattle.session_core.specs.Route.{AreTerms}
use Rattle.session_core.specs.State.{State}
use Rattle.session_core.specs.declared.phases.Phase.TheVariants.{Off}
use Rattle.session_core.specs.declared.routing.Terms.{Terms}
use Rattle.session_core.proofs.States.{bound_is}
use Rattle.session_core.proofs.session.Session.receive_first.Goals as goal

pub invariant_of-self-2 : goal.invariant_of-self-2
invariant_of-self-2 c =
    let off = subst (λ (s : State). s.phase ≡ Off) (sym c.self.view_is) c.requires.off in
    let are = subst (λ (o : Option Terms). IfSome o AreTerms) c.in-Some.is c.in_ok-terms.ensures.lawful in
    bound_is c.line_laws.ensures _ c.in-Some.terms _ _ c.args.moment _ c.self.invariant off are c.in_ok-phase.ensures.phase c.in_ok-phase.ensures.line c.requires.moment c.last_sending-self-inside.ensures.limit
