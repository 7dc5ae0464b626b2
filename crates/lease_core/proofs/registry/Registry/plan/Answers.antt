use Rattle.std.proofs.Common.{refl, subst, sym, IsSome, ap, ◌∙◌}
use Rattle.lease_core.specs.State.{state_of}
use Rattle.lease_core.specs.Kept.{Kept}
use Rattle.lease_core.specs.declared.event.Event.TheVariants.{Plans}
use Rattle.lease_core.specs.Lines.{lines_of}
use Rattle.lease_core.proofs.LinesAfter.{lines-push}
use Rattle.lease_core.proofs.Pushed.{state_of-push}
use Rattle.lease_core.proofs.Settled.{next_by, settled_by}
use Rattle.lease_core.proofs.registry.Registry.plan.Goals as goal

pub push-requires-clause-next : goal.push-requires-clause-next
push-requires-clause-next c =
    let bound = subst (λ (k : Kept). IsSome (state_of k.entries).bound) (sym c.self.view_is) c.requires.bound in
    next_by _ _ (Plans c.args.begin c.args.last c.args.at) tt bound refl c.self.invariant

pub invariant_of-self : goal.invariant_of-self
invariant_of-self c = rw c.push.ensures.entries (settled_by _ _ refl)

pub returns-clause-lines : goal.returns-clause-lines
returns-clause-lines c = ap lines_of c.push.ensures.entries ∙ lines-push c.self.inside.journal.entries _ ∙ ap (λ (k : Kept). lines_of k.entries) c.self.view_is

pub returns-clause-state : goal.returns-clause-state
returns-clause-state c = rw (c.push.ensures.entries, ← c.self.view_is) (state_of-push c.self.inside.journal.entries _)
