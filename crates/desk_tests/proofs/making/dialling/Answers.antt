use Rattle.std.proofs.Common.{rules}
use Rattle.lease_core.specs.State.{state_of}
use Rattle.desk_tests.proofs.making.dialling.Goals as goal

pub returns-clause-entries : goal.returns-clause-entries
unfolding state_of
returns-clause-entries c = search rules

pub returns-clause-free : goal.returns-clause-free
unfolding state_of
returns-clause-free c = search rules
