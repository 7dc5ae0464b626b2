use Rattle.std.proofs.Common.{refl}
use Rattle.lease_core.specs.declared.event.Event.TheVariants.{TimesOut}
use Rattle.lease_core.proofs.Settled.{next_by, settled_by}
use Rattle.lease_core.proofs.journal.Journal.time_out.Goals as goal

pub push-requires-clause-next : goal.push-requires-clause-next
push-requires-clause-next c = rw c.totals-totals.ensures.totals (next_by _ _ TimesOut c.requires.active tt refl c.requires.settled)

pub returns-clause-settled : goal.returns-clause-settled
returns-clause-settled c = rw c.push.ensures.entries (settled_by _ _ refl)
