use Rattle.switchboard.proofs.Stopping.{bound_then, happened_untold, nothing_further, nothing_itself, received_then, stopped_sessions, ticked_then}
use Rattle.switchboard.proofs.laws.stops_are_told.Goals as goal

pub returns-clause-itself : goal.returns-clause-itself
returns-clause-itself c = nothing_itself

pub returns-clause-further : goal.returns-clause-further
returns-clause-further c = nothing_further

pub returns-clause-happening : goal.returns-clause-happening
returns-clause-happening c = happened_untold

pub returns-clause-receives : goal.returns-clause-receives
returns-clause-receives c = received_then

pub returns-clause-binds : goal.returns-clause-binds
returns-clause-binds c = bound_then

pub returns-clause-ticks : goal.returns-clause-ticks
returns-clause-ticks c = ticked_then

pub returns-clause-sessions : goal.returns-clause-sessions
returns-clause-sessions c = stopped_sessions c.leases_stay.ensures.begun
