use Rattle.journal_audit.proofs.ShownSo.{bodies_are_own, deeds_are_own}
use Rattle.journal_audit.proofs.laws.deeds_are_the_libraries_own.Goals as goal

pub returns : goal.returns
returns c = record { deeds = deeds_are_own c.journals_are_lawful.ensures; bodies = bodies_are_own c.journals_are_lawful.ensures }
