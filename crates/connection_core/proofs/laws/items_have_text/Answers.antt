use Rattle.connection_core.proofs.Written.{written_begins, written_within, made_begins, waiting_counted, all_written, unmade_named}
use Rattle.connection_core.proofs.laws.items_have_text.Goals as goal

pub returns-clause-written : goal.returns-clause-written
returns-clause-written c = λ names log items out h. written_begins names log items out h

pub returns-clause-within : goal.returns-clause-within
returns-clause-within c = λ names log items out h. written_within names log items out h

pub returns-clause-next : goal.returns-clause-next
returns-clause-next c = λ names log items out h. made_begins names log items out h

pub returns-clause-waiting : goal.returns-clause-waiting
returns-clause-waiting c = λ names log items out h. waiting_counted names log items out h

pub returns-clause-whole : goal.returns-clause-whole
returns-clause-whole c = λ names log items out h none. all_written names log items out h none

pub returns-clause-unmade : goal.returns-clause-unmade
returns-clause-unmade c = λ names log items out h. unmade_named names log items out h
