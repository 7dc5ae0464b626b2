use Rattle.journal_audit.proofs.Holds.{logs_hold}
use Rattle.journal_audit.proofs.place.ended.Goals as goal

pub returns : goal.returns
returns c = let h = logs_hold 0 c.args.journal.entries in cc
