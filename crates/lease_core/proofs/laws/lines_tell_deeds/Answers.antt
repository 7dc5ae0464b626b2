use Rattle.lease_core.proofs.Deeds.{deeds_are_told, library_deeds_are_told}
use Rattle.lease_core.proofs.laws.lines_tell_deeds.Goals as goal

pub returns-clause-all : goal.returns-clause-all
returns-clause-all c = deeds_are_told

pub returns-clause-library : goal.returns-clause-library
returns-clause-library c = library_deeds_are_told
