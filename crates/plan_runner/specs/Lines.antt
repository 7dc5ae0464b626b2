-- A line of a library's plan: the calls as which it is carried out, which answers it waits by, and how much of it is left.
use Rattle.std.specs.Prelude.{◌≡◌, ℕ, ◌-◌, Bool, true, false, Option, Some, None, List, All, Result, Ok, Err}
use Rattle.gate_io.specs.declared.gates.Lack.{Lack}
use Rattle.gate_io.specs.declared.gates.Lack.TheVariants.{News, Room}
use Rattle.library_api.specs.declared.event.Event.{Event}
use Rattle.library_api.specs.declared.event.Event.TheVariants as events
use Rattle.library_api.specs.declared.refusal.AskError.{AskError}
use Rattle.library_api.specs.declared.refusal.AskError.TheVariants.{Outstanding, AsksSpent, RingFull}
use Rattle.library_api.specs.declared.refusal.SendRefusal.{SendRefusal}
use Rattle.library_api.specs.declared.refusal.SendRefusal.TheVariants.{NotHeld, TooLong, BadBody, LaneFull, SendsSpent, Lost}
use Rattle.library_api.specs.declared.waited.WaitKind.{WaitKind}
use Rattle.library_api.specs.declared.waited.WaitKind.TheVariants as waits
use Rattle.lease_words.specs.declared.item.Sent.{Sent}
use Rattle.run_report.specs.declared.calls.Call.{Call}
use Rattle.run_report.specs.declared.calls.Call.TheVariants as calls
use Rattle.script_text.specs.declared.steps.LibStep.{LibStep}
use Rattle.script_text.specs.declared.steps.LibStep.TheVariants as act
use Rattle.script_text.specs.declared.steps.Step.{Step}
use Rattle.script_text.specs.declared.steps.Step.TheVariants as step

-- a line of the library's own number
abbrev pub IsLineOf : ℕ → Step → Type 0
IsLineOf number (step.Lib library what) = library ≡ number
IsLineOf number (step.At now) = ⊥
IsLineOf number step.Connect = ⊥
IsLineOf number step.Take = ⊥
IsLineOf number (step.Bytes c bytes) = ⊥
IsLineOf number (step.Frame c body) = ⊥
IsLineOf number (step.Finish c) = ⊥
IsLineOf number (step.FailRead c) = ⊥
IsLineOf number (step.FailWrite c n) = ⊥
IsLineOf number (step.Block c n) = ⊥
IsLineOf number (step.Unblock c) = ⊥
IsLineOf number step.Turn = ⊥

-- a library's plan has lines of its own number alone
abbrev pub IsPlanOf : ℕ → List Step → Type 0
IsPlanOf number plan = All (IsLineOf number) plan

-- the call as which a line is carried out: `answer` and `read` are polls
abbrev pub call_of : LibStep → LibStep
call_of (act.Request s from) = act.Request s from
call_of act.Poll = act.Poll
call_of (act.Send s body) = act.Send s body
call_of (act.Release s) = act.Release s
call_of act.Beat = act.Beat
call_of (act.Hand s heir) = act.Hand s heir
call_of act.Answer = act.Poll
call_of (act.Read count) = act.Poll

-- what a library lacks whose call of a line was in vain: a poll takes up news, and any other call wants room
abbrev pub lack_of : LibStep → Lack
lack_of (act.Request s from) = Room
lack_of act.Poll = Room
lack_of (act.Send s body) = Room
lack_of (act.Release s) = Room
lack_of act.Beat = Room
lack_of (act.Hand s heir) = Room
lack_of act.Answer = News
lack_of (act.Read count) = News

-- a poll that found nothing to take up
abbrev pub is_idle : Event → Bool
is_idle events.Nothing = true
is_idle (events.NotYet s pos published) = true
is_idle (events.Granted nr s lease from start) = false
is_idle (events.Refused nr s why) = false
is_idle (events.Message s lease pos bytes) = false
is_idle (events.Stale s lease pos) = false
is_idle (events.LeaseLost s lease seen) = false

abbrev pub is_ring_full : Result ℕ AskError → Bool
is_ring_full (Ok nr) = false
is_ring_full (Err (Outstanding nr)) = false
is_ring_full (Err (AsksSpent count)) = false
is_ring_full (Err (RingFull pushed taken)) = true

abbrev pub is_lane_full : Result Sent SendRefusal → Bool
is_lane_full (Ok sent) = false
is_lane_full (Err NotHeld) = false
is_lane_full (Err (TooLong size)) = false
is_lane_full (Err (BadBody at)) = false
is_lane_full (Err (LaneFull committed taken)) = true
is_lane_full (Err (SendsSpent count)) = false
is_lane_full (Err (Lost seen)) = false

-- a request for which the ring had no room, and a send for which the lane had none
abbrev pub has_no_room : Call → Bool
has_no_room (calls.Request s from answer) = is_ring_full answer
has_no_room (calls.Poll event) = false
has_no_room (calls.Send s body answer) = is_lane_full answer
has_no_room (calls.Release s answer) = false
has_no_room (calls.Hand s heir answer) = false
has_no_room calls.Beat = false

abbrev pub is_idle_poll : Call → Bool
is_idle_poll (calls.Poll event) = is_idle event
is_idle_poll (calls.Request s from answer) = false
is_idle_poll (calls.Send s body answer) = false
is_idle_poll (calls.Release s answer) = false
is_idle_poll (calls.Hand s heir answer) = false
is_idle_poll calls.Beat = false

-- A call that a line makes again: `answer` and `read` where the poll found nothing, another line where there was no room.
abbrev pub is_vain : LibStep → Call → Bool
is_vain act.Answer call = is_idle_poll call
is_vain (act.Read count) call = is_idle_poll call
is_vain (act.Request s from) call = has_no_room call
is_vain act.Poll call = has_no_room call
is_vain (act.Send s body) call = has_no_room call
is_vain (act.Release s) call = has_no_room call
is_vain act.Beat call = has_no_room call
is_vain (act.Hand s heir) call = has_no_room call

-- what a line waits by, where it waits
abbrev pub waits_by : LibStep → WaitKind
waits_by act.Answer = waits.Event
waits_by (act.Read count) = waits.Event
waits_by (act.Send s body) = waits.Lane
waits_by (act.Request s from) = waits.Asks
waits_by act.Poll = waits.Free
waits_by (act.Release s) = waits.Free
waits_by act.Beat = waits.Free
waits_by (act.Hand s heir) = waits.Free

-- one where a request is open
abbrev pub open_count : Option ℕ → ℕ
open_count (Some nr) = 1
open_count None = 0

-- How much of a line is left as it begins: of `answer` the request that is open, of `read` the messages, and another line is one call.
abbrev pub left_first : LibStep → Option ℕ → ℕ
left_first act.Answer unanswered = open_count unanswered
left_first (act.Read count) unanswered = count
left_first (act.Request s from) unanswered = 1
left_first act.Poll unanswered = 1
left_first (act.Send s body) unanswered = 1
left_first (act.Release s) unanswered = 1
left_first act.Beat unanswered = 1
left_first (act.Hand s heir) unanswered = 1

-- a message is one fewer to come, and behind a lost lease none is waited for
abbrev pub left_of_read : Event → ℕ → ℕ
left_of_read (events.Message s lease pos bytes) left = left - 1
left_of_read (events.LeaseLost s lease seen) left = 0
left_of_read events.Nothing left = left
left_of_read (events.NotYet s pos published) left = left
left_of_read (events.Granted nr s lease from start) left = left
left_of_read (events.Refused nr s why) left = left
left_of_read (events.Stale s lease pos) left = left

abbrev pub left_to_read : Call → ℕ → ℕ
left_to_read (calls.Poll event) left = left_of_read event left
left_to_read (calls.Request s from answer) left = left
left_to_read (calls.Send s body answer) left = left
left_to_read (calls.Release s answer) left = left
left_to_read (calls.Hand s heir answer) left = left
left_to_read calls.Beat left = left

-- and how much is left behind a reported call
abbrev pub left_after : LibStep → Call → Option ℕ → ℕ → ℕ
left_after act.Answer call unanswered left = open_count unanswered
left_after (act.Read count) call unanswered left = left_to_read call left
left_after (act.Request s from) call unanswered left = 0
left_after act.Poll call unanswered left = 0
left_after (act.Send s body) call unanswered left = 0
left_after (act.Release s) call unanswered left = 0
left_after act.Beat call unanswered left = 0
left_after (act.Hand s heir) call unanswered left = 0
