use Rattle.journal_audit.proofs.ShownSo.{reads_are_prefixes}
use Rattle.journal_audit.proofs.laws.reads_are_prefixes.Goals as goal

pub returns : goal.returns
returns c = reads_are_prefixes c.journals_are_lawful.ensures
