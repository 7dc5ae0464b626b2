use Rattle.message_log.proofs.Growing.{goes_on-itself, goes_on-entry, goes_on-series, goes_on-further}
use Rattle.message_log.proofs.laws.logs_go_on.Goals as goal

pub returns-clause-itself : goal.returns-clause-itself
returns-clause-itself c = goes_on-itself

pub returns-clause-entry : goal.returns-clause-entry
returns-clause-entry c = goes_on-entry

pub returns-clause-series : goal.returns-clause-series
returns-clause-series c = goes_on-series

pub returns-clause-further : goal.returns-clause-further
returns-clause-further c = goes_on-further
