-- Which rule a message on a bound session comes under: the first that applies (FIX 4.4, volume 2, "Session Protocol").
use Rattle.std.specs.Prelude.{ℕ, ◌==◌, nat_lt, Bool, true, false, not, ◌&&◌, ◌||◌, List, codes, Option, None, Some, Result, Ok, Err, if◌then◌else◌}
use Rattle.fix_fields.specs.Field.{Field}
use Rattle.session_core.specs.Replies.{reject_for, test_answer, resend_answer, new_number, gap_fill, low_text, no_number_text}
use Rattle.session_core.specs.Said.{has_value, seq_num_of}
use Rattle.session_core.specs.declared.acts.Act.TheVariants.{Send}
use Rattle.session_core.specs.declared.acts.Admin.{Admin}
use Rattle.session_core.specs.declared.acts.Admin.TheVariants.{Logout}
use Rattle.session_core.specs.declared.causes.Cause.TheVariants.{NoNumber, LowNumber, CompId, LoggedOut}
use Rattle.session_core.specs.declared.names.Names.{Names}
use Rattle.session_core.specs.declared.steps.Step.{Step}
use Rattle.session_core.specs.declared.steps.Step.TheVariants.{Ignore, Refuse, Close, Move, Deliver, Handle}
use Rattle.session_core.specs.declared.tasks.Task.TheVariants.{Nothing, Do}

-- MsgSeqNum (34) isn't a number of its range
unfoldable pub no_number : Step
no_number = Close None (Logout (Some no_number_text)) NoNumber false

-- the first CompID that isn't the session's: SenderCompID (49), then TargetCompID (56)
unfoldable pub wrong_name : Names → List Field → Option ℕ
wrong_name names fields =
    if not (has_value 49 names.them fields) then Some 49
    else (if not (has_value 56 names.us fields) then Some 56 else None)

-- it is rejected, and counted where it has the expected number; nothing is carried out
unfoldable pub wrong_comp_id : ℕ → ℕ → List Field → ℕ → Step
wrong_comp_id expected n fields tag = Close (Some (reject_for n fields tag 9)) (Logout None) (CompId tag) (n == expected)

-- a SequenceReset (type 4) without GapFillFlag (123) Y
unfoldable pub is_reset : List Field → Bool
is_reset fields = has_value 35 (codes "4") fields && not (has_value 123 (codes "Y") fields)

-- its own number is ignored, and NewSeqNo doesn't go back
abbrev pub move_or_refuse : Result ℕ Admin → Step
move_or_refuse (Ok to) = Move to
move_or_refuse (Err reject) = Refuse reject

unfoldable pub reset : ℕ → ℕ → List Field → Step
reset expected n fields = move_or_refuse (new_number expected n fields)

-- a low number is ignored with PossDupFlag (43) Y, and else ends the connection
unfoldable pub low : ℕ → ℕ → List Field → Step
low expected n fields =
    if has_value 43 (codes "Y") fields then Ignore
    else Close None (Logout (Some (low_text expected n))) (LowNumber expected n) false

-- Heartbeat, Reject and a further Logon ask for nothing
unfoldable pub asks_nothing : List Field → Bool
asks_nothing fields =
    has_value 35 (codes "0") fields || has_value 35 (codes "3") fields || has_value 35 (codes "A") fields

-- a message that is no Logout and no ResendRequest, to be carried out on its number
unfoldable pub in_order : ℕ → List Field → Step
in_order n fields =
    if asks_nothing fields then Handle n None Nothing
    else (if has_value 35 (codes "1") fields then Handle n None (Do (Send (test_answer n fields)))
    else (if has_value 35 (codes "4") fields then Handle n None (gap_fill n fields)
    else Deliver n))

-- Early: a Logout is answered and not counted. A ResendRequest is answered at once, and nothing is left to do for it.
unfoldable pub early : ℕ → List Field → Step
early n fields =
    if has_value 35 (codes "5") fields then Close None (Logout None) LoggedOut false
    else (if has_value 35 (codes "2") fields then Handle n (Some (resend_answer n fields)) Nothing
    else in_order n fields)

-- on its number
unfoldable pub on_time : ℕ → List Field → Step
on_time n fields =
    if has_value 35 (codes "5") fields then Close None (Logout None) LoggedOut true
    else (if has_value 35 (codes "2") fields then Handle n None (Do (resend_answer n fields))
    else in_order n fields)

unfoldable pub by_number : ℕ → ℕ → List Field → Step
by_number expected n fields =
    if nat_lt n expected then low expected n fields
    else (if nat_lt expected n then early n fields else on_time n fields)

abbrev pub by_name : ℕ → ℕ → List Field → Option ℕ → Step
by_name expected n fields (Some tag) = wrong_comp_id expected n fields tag
by_name expected n fields None = if is_reset fields then reset expected n fields else by_number expected n fields

abbrev pub by_seq_num : Names → ℕ → List Field → Option ℕ → Step
by_seq_num names expected fields None = no_number
by_seq_num names expected fields (Some n) = by_name expected n fields (wrong_name names fields)

-- the rule of a message on a bound session with these names that expects this number
unfoldable pub step_of : Names → ℕ → List Field → Step
step_of names expected fields = by_seq_num names expected fields (seq_num_of fields)
