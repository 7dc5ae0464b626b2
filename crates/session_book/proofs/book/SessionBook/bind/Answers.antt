use Rattle.std.proofs.Common.{◌≢◌, Option, sym, ap, subst, ◌∙◌, is_some}
use Rattle.lease_core.specs.State.{state_of}
use Rattle.session_core.specs.declared.causes.Cause.{Cause}
use Rattle.session_core.specs.declared.phases.Phase.{Phase}
use Rattle.session_core.specs.declared.phases.Phase.TheVariants.{Off}
use Rattle.session_book.proofs.book.SessionBook.bind.Goals as goal

pub returns-clause-on : goal.returns-clause-on
returns-clause-on c = λ names accepts is none.
    let view = c.self.view_is in
    let off = c.self.invariant.0.off (ap (λ k. (state_of k.book.entries).bound) view ∙ c.requires.free) in
    let dials = ap (λ k. k.book.machine.dials) view ∙ accepts in
    let stands = sym (ap (λ e. is_some e.end) c.in_ok-effects.ensures.effects) ∙ ap (λ (end : Option Cause). is_some end) none in
    subst (λ (phase : Phase). phase ≢ Off) (sym (c.carry_all.ensures.phase ∙ ap (λ m. m.phase) c.in_ok-effects.ensures.state))
    (c.phases_follow.ensures.binds names _ _ c.args.at off dials is stands)
