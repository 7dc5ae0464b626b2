use Rattle.lease_core.proofs.GivenBack.{next_release}
use Rattle.lease_core.proofs.journal.Journal.release.Goals as goal

pub push-requires-clause-next : goal.push-requires-clause-next
push-requires-clause-next c =
    rw (c.heir_named-heir.ensures, c.totals-totals.ensures.totals) (next_release _ _ c.args.owner c.requires.active c.requires.owner c.requires.settled)
