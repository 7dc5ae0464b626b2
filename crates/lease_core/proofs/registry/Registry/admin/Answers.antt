use Rattle.std.proofs.Common.{refl, ap, ◌∙◌, ◌<◌, length, subst}
use Rattle.lease_core.specs.declared.event.Event.TheVariants.{AdminSent}
use Rattle.lease_core.specs.Kept.{Kept}
use Rattle.lease_core.specs.Lines.{lines_of}
use Rattle.lease_core.proofs.LinesAfter.{lines-push}
use Rattle.lease_core.proofs.Pushed.{state_of-push}
use Rattle.lease_core.specs.declared.totals.Totals.{Totals}
use Rattle.lease_core.specs.State.{state_of}
use Rattle.lease_core.proofs.SentMore.{one_admin}
use Rattle.lease_core.proofs.Settled.{next_by, settled_by}
use Rattle.lease_core.proofs.registry.Registry.admin.Goals as goal

pub push-requires-clause-next : goal.push-requires-clause-next
push-requires-clause-next c = rw c.totals.ensures.totals (next_by _ _ AdminSent tt tt refl c.self.invariant)

pub invariant_of-self : goal.invariant_of-self
invariant_of-self c = rw c.push.ensures.entries (settled_by _ _ refl)

pub returns-clause-lines : goal.returns-clause-lines
returns-clause-lines c = ap lines_of c.push.ensures.entries ∙ lines-push c.self.inside.journal.entries _ ∙ ap (λ (k : Kept). lines_of k.entries) c.self.view_is

pub returns-clause-state : goal.returns-clause-state
returns-clause-state c = rw (c.push.ensures.entries, c.totals.ensures.totals, ← c.self.view_is) (state_of-push c.self.inside.journal.entries _)

pub returns-clause-logs : goal.returns-clause-logs
returns-clause-logs c =
    let some : 0 < length (state_of c.self.inside.journal.entries).series = subst (λ (t : Totals). 0 < t.series) c.totals.ensures.totals c.totals.ensures.series in
    rw (c.push.ensures.entries, ← c.self.view_is, state_of-push) (one_admin (state_of c.self.inside.journal.entries) _ some)
