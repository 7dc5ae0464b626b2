-- What a message may lead to: the acts, and what is left to do for one that came early.
use Rattle.std.specs.Prelude.{◌≡◌, ◌≤◌, Bool, true, false, length, None, Some}
use Rattle.seq_gaps.specs.Line.{IsNumber}
use Rattle.session_core.specs.declared.acts.Act.{Act}
use Rattle.session_core.specs.declared.acts.Act.TheVariants.{Accept, Send, Resend, Reset}
use Rattle.session_core.specs.declared.acts.Admin.{Admin}
use Rattle.session_core.specs.declared.acts.Admin.TheVariants.{Logon, Heartbeat, TestRequest, ResendRequest, Reject, Logout}
use Rattle.session_core.specs.declared.replies.TheConstants.{LONGEST_TEST, LONGEST_LOGOUT_TEXT}
use Rattle.session_core.specs.declared.tasks.Task.{Task}
use Rattle.session_core.specs.declared.tasks.Task.TheVariants.{Nothing, Do, Fill}

-- a message that the clock alone sends: a Heartbeat without TestReqID (112), or a TestRequest
abbrev pub is_tick : Admin → Bool
is_tick (Logon heart reset) = false
is_tick (Heartbeat None) = true
is_tick (Heartbeat (Some test)) = false
is_tick TestRequest = true
is_tick (ResendRequest begin last) = false
is_tick (Reject seq tag kind reason) = false
is_tick (Logout text) = false

-- its TestReqID, and the text of a Logout, are within their bounds
abbrev pub HasShortTexts : Admin → Type 0
HasShortTexts (Logon heart reset) = Unit {0}
HasShortTexts (Heartbeat None) = Unit {0}
HasShortTexts (Heartbeat (Some test)) = length test ≤ LONGEST_TEST
HasShortTexts TestRequest = Unit {0}
HasShortTexts (ResendRequest begin last) = Unit {0}
HasShortTexts (Reject seq tag kind reason) = Unit {0}
HasShortTexts (Logout None) = Unit {0}
HasShortTexts (Logout (Some text)) = length text ≤ LONGEST_LOGOUT_TEXT

-- an act whose session message, if it sends one, is within its bounds
abbrev pub SendsShortTexts : Act → Type 0
SendsShortTexts (Accept body) = Unit {0}
SendsShortTexts (Send admin) = HasShortTexts admin
SendsShortTexts (Resend begin last) = Unit {0}
SendsShortTexts Reset = Unit {0}

-- an act that sends what the clock sends
abbrev pub is_tick_act : Act → Bool
is_tick_act (Accept body) = false
is_tick_act (Send admin) = is_tick admin
is_tick_act (Resend begin last) = false
is_tick_act Reset = false

abbrev pub is_reset_act : Act → Bool
is_reset_act (Accept body) = false
is_reset_act (Send admin) = false
is_reset_act (Resend begin last) = false
is_reset_act Reset = true

-- an act that follows from a message on a session that asked for a Logon or answered one
pub record IsReply (act : Act) : Type 0 where
  pub short : SendsShortTexts act
  pub no_tick : is_tick_act act ≡ false
  pub no_reset : is_reset_act act ≡ false

-- a task that a message's rule gives
abbrev pub IsTask : Task → Type 0
IsTask Nothing = Unit {0}
IsTask (Do act) = IsReply act
IsTask (Fill to) = IsNumber to
