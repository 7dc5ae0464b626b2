use Rattle.std.proofs.Common.{refl}
use Rattle.lease_core.specs.declared.event.Event.TheVariants.{Sends}
use Rattle.lease_core.proofs.Settled.{next_by}
use Rattle.lease_core.proofs.journal.Journal.send.Goals as goal

pub push-requires-clause-next : goal.push-requires-clause-next
push-requires-clause-next c = rw c.totals-totals.ensures.totals (next_by _ _ Sends c.requires.active tt refl c.requires.settled)
