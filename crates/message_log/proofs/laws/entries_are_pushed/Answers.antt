use Rattle.message_log.proofs.Growing.{none_at_first, pushed_or_old, turned_same}
use Rattle.message_log.proofs.laws.entries_are_pushed.Goals as goal

pub returns-clause-none_at_first : goal.returns-clause-none_at_first
returns-clause-none_at_first c = none_at_first

pub returns-clause-entry : goal.returns-clause-entry
returns-clause-entry c = pushed_or_old

pub returns-clause-series : goal.returns-clause-series
returns-clause-series c = turned_same
