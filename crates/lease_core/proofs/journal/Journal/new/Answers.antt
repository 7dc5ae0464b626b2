use Rattle.lease_core.proofs.Kept.{first_kept}
use Rattle.lease_core.proofs.journal.Journal.new.Goals as goal

pub invariant_of-result : goal.invariant_of-result
invariant_of-result c = rw (c.new.ensures.items, c.push.ensures.items, c.unwrap.ensures, c.in_ok-holdings.ensures.items, c.engine_from.ensures) (first_kept c.args.limit)
