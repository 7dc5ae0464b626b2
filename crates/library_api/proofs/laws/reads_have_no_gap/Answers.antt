use Rattle.library_api.proofs.Gapless.{gapless, beginning}
use Rattle.library_api.proofs.laws.reads_have_no_gap.Goals as goal

pub returns-clause-reads : goal.returns-clause-reads
returns-clause-reads c = gapless

pub returns-clause-beginnings : goal.returns-clause-beginnings
returns-clause-beginnings c = beginning
