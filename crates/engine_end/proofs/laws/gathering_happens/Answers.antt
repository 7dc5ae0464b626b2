use Rattle.engine_end.proofs.Running.{come_in_order, gathered, keeps_bytes, nothing_handled, some_gathered}
use Rattle.engine_end.proofs.laws.gathering_happens.Goals as goal

pub returns-clause-all : goal.returns-clause-all
returns-clause-all c = λ at until old new gathers. gathered at until c.boards_stay_ready.ensures.further _ old new gathers

pub returns-clause-some : goal.returns-clause-some
returns-clause-some c = λ at until old new some. some_gathered at until c.boards_stay_ready.ensures.further old new some

pub returns-clause-ready : goal.returns-clause-ready
returns-clause-ready c = λ before at until old new runs ready. c.boards_stay_ready.ensures.run before runs.happenings old new runs.reaches ready

pub returns-clause-goes_on : goal.returns-clause-goes_on
returns-clause-goes_on c = λ at until old new runs. c.boards_go_on.ensures.run runs.happenings old new runs.reaches

pub returns-clause-bytes : goal.returns-clause-bytes
returns-clause-bytes c = λ before at until old new runs ready k within.
    keeps_bytes before (record { ready = c.boards_stay_ready.ensures.happening before; goes_on = c.boards_go_on.ensures.happening; quiet_bytes = c.boards_go_on.ensures.quiet before }) at until runs.happenings old new runs.all runs.reaches ready k within

pub returns-clause-in_order : goal.returns-clause-in_order
returns-clause-in_order c = come_in_order

pub returns-clause-in_hand : goal.returns-clause-in_hand
returns-clause-in_hand c = nothing_handled
