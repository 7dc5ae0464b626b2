-- each entry of a lawful journal may stand behind those before it
use Rattle.std.proofs.Common.{◌∙◌}
use Rattle.lease_core.proofs.LinesAfter.{next_at}
use Rattle.lease_core.proofs.recovery.Recovery.of.Goals as goal

pub record-requires-clause-next : goal.record-requires-clause-next
record-requires-clause-next c =
    let entries = c.in_ok-reserve.ensures.entries ∙ c.loop-entry.invariant.entries in
    let leases = c.in_ok-reserve.ensures.leases ∙ c.loop-entry.invariant.leases in
    rw (entries, leases) (next_at _ c.args.entries.now c.loop-entry.entry-index _ c.loop-entry-test.true c.requires)
