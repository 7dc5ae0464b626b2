-- What follows from a message, and the session behind it.
use Rattle.std.specs.Prelude.{ℕ, nat_lt, Bool, true, false, List, [], ◌∷◌, Option, None, Some, Result, Ok, Err, if◌then◌else◌}
use Rattle.std.specs.List.{list_any}
use Rattle.std.specs.Result.{result_ok}
use Rattle.fix_fields.specs.Field.{Field}
use Rattle.fix_fields.specs.Reading.{fields_of}
use Rattle.seq_gaps.specs.Line.{Line, fresh_line}
use Rattle.session_core.specs.Carry.{after_handling, after_step, end_of}
use Rattle.session_core.specs.Replies.{low_text}
use Rattle.session_core.specs.Route.{terms_of, answer_in}
use Rattle.session_core.specs.State.{State}
use Rattle.session_core.specs.Steps.{step_of}
use Rattle.session_core.specs.declared.acts.Act.{Act}
use Rattle.session_core.specs.declared.acts.Act.TheVariants.{Accept, Send, Resend, Reset}
use Rattle.session_core.specs.declared.acts.Admin.TheVariants.{Logon, Logout}
use Rattle.session_core.specs.declared.acts.Effects.{Effects}
use Rattle.session_core.specs.declared.names.Names.{Names}
use Rattle.session_core.specs.declared.causes.Cause.{Cause}
use Rattle.session_core.specs.declared.causes.Cause.TheVariants.{LowNumber}
use Rattle.session_core.specs.declared.phases.Phase.{Phase}
use Rattle.session_core.specs.declared.phases.Phase.TheVariants.{Off, Asked, On}
use Rattle.session_core.specs.declared.routing.Terms.{Terms}
use Rattle.session_core.specs.declared.steps.Step.{Step}
use Rattle.session_core.specs.declared.tasks.Task.{Task}
use Rattle.session_core.specs.declared.tasks.Task.TheVariants.{Nothing}

-- what a message decides, whatever the moment is
pub record Outcome : Type 0 where
  pub phase : Phase
  pub line : Line Task
  pub effects : Effects
  pub heard : Bool

abbrev pub no_effects : Effects
no_effects = record { acts = []; end = None }

-- a message that can't be read counts for nothing
abbrev pub outcome_unread : State → Outcome
outcome_unread state = record { phase = state.phase; line = state.line; effects = no_effects; heard = false }

-- the number that is expected of a Logon: 1 where it resets both sides' numbers
abbrev pub expected_at : Line Task → Terms → ℕ
expected_at line terms = if terms.reset then 1 else line.expected

abbrev pub line_at : Line Task → Terms → Line Task
line_at line terms = if terms.reset then fresh_line else line

-- the Logon that answers, behind the reset that was asked for
abbrev pub greeting : Terms → List Act
greeting terms =
    if terms.reset then Reset ∷ Send (Logon terms.heart terms.reset) ∷ [] else Send (Logon terms.heart terms.reset) ∷ []

-- a low number is answered with a Logout; field 43 isn't looked at
abbrev pub low_effects : ℕ → ℕ → Effects
low_effects expected got = record { acts = Send (Logout (Some (low_text expected got))) ∷ []; end = Some (LowNumber expected got) }

abbrev pub outcome_of_low : Line Task → Terms → Outcome
outcome_of_low line terms =
    record { phase = Off; line = line; effects = low_effects (expected_at line terms) terms.number; heard = true }

-- the Logon is answered, and its own number goes to the line with nothing left to do
abbrev pub outcome_of_welcome : Line Task → Terms → Outcome
outcome_of_welcome line terms =
    let p = after_handling (record { line = line_at line terms; acts = greeting terms }) terms.number Nothing in
    record { phase = On terms.heart; line = p.line; effects = record { acts = p.acts; end = None }; heard = true }

unfoldable pub outcome_of_logon : Line Task → Terms → Outcome
outcome_of_logon line terms =
    if nat_lt terms.number (expected_at line terms) then outcome_of_low line terms else outcome_of_welcome line terms

-- the terms of a message that can be read, taken for a Logon, and that none of the fields 98, 108, 141 and 34 refuses
abbrev pub terms_in : Option (List Field) → Option Terms
terms_in None = None
terms_in (Some fields) = result_ok (terms_of fields)

-- a session that dials isn't bound by a connection that comes
abbrev pub terms_for : Option ℕ → Option (List Field) → Option Terms
terms_for None fields = terms_in fields
terms_for (Some heart) fields = None

-- A message on a session that is off. Without terms it counts for nothing; with them it is taken for the Logon of the
-- connection that is bound now. MsgType (35) and the CompIDs aren't looked at here: that is for `route`, before a
-- connection is bound.
abbrev pub outcome_of_terms : State → Option Terms → Outcome
outcome_of_terms state None = outcome_unread state
outcome_of_terms state (Some terms) = outcome_of_logon state.line terms

-- the step of a message that can be read
abbrev pub step_in : Names → ℕ → Option (List Field) → Option Step
step_in names expected None = None
step_in names expected (Some fields) = Some (step_of names expected fields)

-- a message on a bound session
abbrev pub outcome_of_step : State → List ℕ → Option Step → Outcome
outcome_of_step state body None = outcome_unread state
outcome_of_step state body (Some step) =
    let p = after_step state.line step body in
    record { phase = state.phase; line = p.line; effects = record { acts = p.acts; end = end_of step }; heard = true }

-- the answer to the session's own Logon is refused: the connection ends with nothing sent, and the answer is still due
abbrev pub outcome_of_refusal : State → Cause → Outcome
outcome_of_refusal state cause = record (outcome_unread state) { effects = record { acts = []; end = Some cause } }

-- A low number is answered with a Logout. Any other goes to the line with nothing left to do.
abbrev pub outcome_of_low_answer : Line Task → ℕ → ℕ → Outcome
outcome_of_low_answer line heart n =
    record { phase = On heart; line = line; effects = low_effects line.expected n; heard = true }

abbrev pub outcome_of_good_answer : Line Task → ℕ → ℕ → Outcome
outcome_of_good_answer line heart n =
    let p = after_handling (record { line = line; acts = [] }) n Nothing in
    record { phase = On heart; line = p.line; effects = record { acts = p.acts; end = None }; heard = true }

unfoldable pub outcome_of_answer : Line Task → ℕ → ℕ → Outcome
outcome_of_answer line heart n =
    if nat_lt n line.expected then outcome_of_low_answer line heart n else outcome_of_good_answer line heart n

-- the first message behind the session's own Logon
abbrev pub outcome_asked : State → ℕ → Result ℕ Cause → Outcome
outcome_asked state heart (Ok n) = outcome_of_answer state.line heart n
outcome_asked state heart (Err cause) = outcome_of_refusal state cause

abbrev pub outcome_in : Phase → State → List ℕ → Option (List Field) → Outcome
outcome_in Off state body fields = outcome_of_terms state (terms_for state.dials fields)
outcome_in (Asked heart) state body fields = outcome_asked state heart (answer_in state.names heart fields)
outcome_in (On heart) state body fields = outcome_of_step state body (step_in state.names state.line.expected fields)

-- what follows from a message with this body
unfoldable pub outcome : State → List ℕ → Outcome
outcome state body = outcome_in state.phase state body (result_ok (fields_of body))

abbrev pub is_send : Act → Bool
is_send (Accept body) = false
is_send (Send admin) = true
is_send (Resend begin last) = false
is_send Reset = false

-- The session behind a message that came at the moment: a message that is heard sets the moment of the last receipt and
-- ends the wait for an answer to a TestRequest.
abbrev pub after_outcome : State → Outcome → ℕ → State
after_outcome state o moment =
    if o.heard
    then record state { phase = o.phase; line = o.line; received = moment; sent = if list_any is_send o.effects.acts then moment else state.sent; waiting = None }
    else state

-- the acts and the end
abbrev pub receive : State → List ℕ → ℕ → Effects
receive state body moment = (outcome state body).effects

abbrev pub after_receive : State → List ℕ → ℕ → State
after_receive state body moment = after_outcome state (outcome state body) moment
