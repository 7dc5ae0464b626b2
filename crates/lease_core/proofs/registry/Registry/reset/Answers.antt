use Rattle.std.proofs.Common.{◌+◌, refl, subst, sym, IsTrue, ap, ◌∙◌}
use Rattle.lease_core.specs.State.{state_of, series_of}
use Rattle.lease_core.specs.Kept.{Kept}
use Rattle.lease_core.specs.Runs.{is_bind}
use Rattle.lease_core.specs.declared.event.Event.TheVariants.{Resets}
use Rattle.lease_core.specs.Lines.{lines_of}
use Rattle.lease_core.proofs.LinesAfter.{lines-push}
use Rattle.lease_core.proofs.Pushed.{state_of-push}
use Rattle.lease_core.proofs.SentMore.{series_reset, number_reset, all_reset}
use Rattle.lease_core.proofs.Settled.{next_by, settled_by}
use Rattle.lease_core.proofs.registry.Registry.reset.Goals as goal

pub push-requires-clause-next : goal.push-requires-clause-next
push-requires-clause-next c =
    let bound = subst (λ (k : Kept). IsTrue (is_bind (state_of k.entries).latest)) (sym c.self.view_is) c.requires.bound in
    rw c.totals.ensures.totals (next_by _ _ Resets tt bound refl c.self.invariant)

pub invariant_of-self : goal.invariant_of-self
invariant_of-self c = rw c.push.ensures.entries (settled_by _ _ refl)

pub returns-clause-lines : goal.returns-clause-lines
returns-clause-lines c = ap lines_of c.push.ensures.entries ∙ lines-push c.self.inside.journal.entries _ ∙ ap (λ (k : Kept). lines_of k.entries) c.self.view_is

pub returns-clause-state : goal.returns-clause-state
returns-clause-state c = rw (c.push.ensures.entries, c.totals.ensures.totals, ← c.self.view_is) (state_of-push c.self.inside.journal.entries _)

pub returns-clause-present : goal.returns-clause-present
returns-clause-present c = rw (c.push.ensures.entries, state_of-push, c.totals.ensures.totals) (series_reset (state_of c.self.inside.journal.entries) (series_of (state_of c.self.inside.journal.entries) + 1))

pub returns-clause-none_sent : goal.returns-clause-none_sent
returns-clause-none_sent c = rw (c.push.ensures.entries, state_of-push) (number_reset (state_of c.self.inside.journal.entries) (c.totals.result.now.series + 1))

pub returns-clause-all : goal.returns-clause-all
returns-clause-all c = rw (c.push.ensures.entries, ← c.self.view_is, state_of-push) (all_reset (state_of c.self.inside.journal.entries) (c.totals.result.now.series + 1))
