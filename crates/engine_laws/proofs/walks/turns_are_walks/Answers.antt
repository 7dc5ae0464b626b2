use Rattle.engine_laws.proofs.Walking.{read, read_as, some_handled, turn_given, turn_made, turn_taken, written_in_turn}
use Rattle.engine_laws.proofs.walks.turns_are_walks.Goals as goal

pub returns-clause-takes : goal.returns-clause-takes
returns-clause-takes c = turn_taken

pub returns-clause-gives : goal.returns-clause-gives
returns-clause-gives c = turn_given

pub returns-clause-turn : goal.returns-clause-turn
returns-clause-turn c = turn_made

pub returns-clause-handles : goal.returns-clause-handles
returns-clause-handles c = some_handled

pub returns-clause-reads_as : goal.returns-clause-reads_as
returns-clause-reads_as c = λ answer routes k buffer at until. read_as routes k at until answer buffer

pub returns-clause-reads : goal.returns-clause-reads
returns-clause-reads c = λ answer routes k buffer at until. read routes k at until answer buffer

pub returns-clause-writes : goal.returns-clause-writes
returns-clause-writes c = written_in_turn
