use Rattle.message_log.proofs.Growing.{entry_stays, named_stays, beginning_stays, past_stays, longer_stays}
use Rattle.message_log.proofs.laws.entries_stay.Goals as goal

pub returns-clause-entry : goal.returns-clause-entry
returns-clause-entry c = λ earlier later series number is. entry_stays earlier later series is number

pub returns-clause-named : goal.returns-clause-named
returns-clause-named c = λ earlier later series number is. named_stays earlier later series is number

pub returns-clause-beginning : goal.returns-clause-beginning
returns-clause-beginning c = λ earlier later series is. beginning_stays earlier later series is

pub returns-clause-past : goal.returns-clause-past
returns-clause-past c = λ earlier later series is. past_stays earlier later series is

pub returns-clause-series : goal.returns-clause-series
returns-clause-series c = longer_stays
