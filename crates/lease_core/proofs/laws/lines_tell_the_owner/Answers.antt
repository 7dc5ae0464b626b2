use Rattle.lease_core.proofs.LinesAfter.{owner_by-lines, length-lines}
use Rattle.lease_core.proofs.laws.lines_tell_the_owner.Goals as goal

pub returns-clause-owner : goal.returns-clause-owner
returns-clause-owner c = owner_by-lines

pub returns-clause-lease : goal.returns-clause-lease
returns-clause-lease c = length-lines
