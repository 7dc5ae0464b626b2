-- How many messages a library's calls gave.
use Rattle.std.specs.Prelude.{ℕ, Bool, count_by, true, false, List}
use Rattle.library_api.specs.declared.event.Event.{Event}
use Rattle.library_api.specs.declared.event.Event.TheVariants as events
use Rattle.run_report.specs.declared.calls.Call.{Call}
use Rattle.run_report.specs.declared.calls.Call.TheVariants as calls

-- a message that a poll gave
abbrev pub is_read : Event → Bool
is_read (events.Message s lease pos bytes) = true
is_read events.Nothing = false
is_read (events.NotYet s pos published) = false
is_read (events.Granted nr s lease from start) = false
is_read (events.Refused nr s why) = false
is_read (events.Stale s lease pos) = false
is_read (events.LeaseLost s lease seen) = false

abbrev pub gives_message : Call → Bool
gives_message (calls.Poll event) = is_read event
gives_message (calls.Request s from answer) = false
gives_message (calls.Send s body answer) = false
gives_message (calls.Release s answer) = false
gives_message (calls.Hand s heir answer) = false
gives_message calls.Beat = false

-- how many messages these calls gave
abbrev pub reads_of : List Call → ℕ
reads_of made = count_by gives_message made
