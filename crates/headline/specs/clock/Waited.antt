-- How long a connection is waited for, in the words of a record, and what the clock tells in a run in which one ended since nothing came.
use Rattle.std.specs.Prelude.{◌≡◌, ℕ, ◌+◌, ◌*◌, ◌≤◌, Bool, is_ok, if◌then◌else◌, List, [], ◌∷◌, Option, None, Some, unwrap_or}
use Rattle.std.specs.List.{list_any}
use Rattle.std.specs.Result.{result_ok}
use Rattle.connection_core.specs.declared.limits.TheConstants.{LOGON_WAIT}
use Rattle.connection_core.specs.declared.records.ConnRecord.{ConnRecord}
use Rattle.fix_fields.specs.Field.{Field}
use Rattle.fix_fields.specs.Reading.{fields_of}
use Rattle.fix_frame.specs.Cut.{cut}
use Rattle.fix_frame.specs.declared.layout.TheConstants.{LONGEST_FRAME}
use Rattle.session_core.specs.Route.{answer_in}
use Rattle.session_core.specs.Said.{heart_of}
use Rattle.session_core.specs.State.{State}
use Rattle.session_core.specs.declared.causes.Cause.TheVariants.{Silent}
use Rattle.session_core.specs.declared.names.Names.{Names}
use Rattle.session_core.specs.declared.ticks.TheConstants.{ANSWER_WAIT}
use Rattle.switchboard.specs.Brought.{good_bodies}

-- the messages that came whole among these bytes
abbrev pub messages_of : List ℕ → List (List ℕ)
messages_of taken = good_bodies (cut LONGEST_FRAME taken).pieces

-- the HeartBtInt (108) that a message names, or 0
abbrev pub heart_in : Option (List Field) → ℕ
heart_in None = 0
heart_in (Some fields) = unwrap_or (heart_of fields) 0

abbrev pub heart_asked : List ℕ → ℕ
heart_asked body = heart_in (result_ok (fields_of body))

-- that of the first of some messages
abbrev pub first_heart : List (List ℕ) → ℕ
first_heart [] = 0
first_heart (body ∷ bodies) = heart_asked body

-- the message answers the Logon of a session that dials, with these names and this HeartBtInt
abbrev pub answers_logon : Names → ℕ → List ℕ → Bool
answers_logon names heart body = is_ok (answer_in names heart (result_ok (fields_of body)))

-- How many milliseconds a session waits at least on a connection on which these messages came. One that accepts goes by the HeartBtInt, in seconds, of the Logon,
-- which came first. One that dials waits ANSWER_WAIT for the answer to its own Logon; where one of the messages is that answer it goes by the HeartBtInt with
-- which it dialled.
abbrev pub wait_with : Names → Option ℕ → List (List ℕ) → ℕ
wait_with names None bodies = 1000 * first_heart bodies
wait_with names (Some heart) bodies = if list_any (answers_logon names heart) bodies then 1000 * heart else ANSWER_WAIT

-- the same by the session that a connection names, where the sessions began so; one that names none is waited for as long as a Logon may take
abbrev pub wait_by : (ℕ → State) → Option ℕ → List (List ℕ) → ℕ
wait_by start None bodies = LOGON_WAIT
wait_by start (Some s) bodies = wait_with (start s).names (start s).dials bodies

-- From this moment on, which isn't before the first one, the clock goes on for as long as is waited for, at least a millisecond, up to the last one.
pub record HasWaited (first last since wait : ℕ) : Type 0 where
  pub begun : first ≤ since
  pub waited : since + wait ≤ last
  pub some : 1 ≤ wait

-- so it is of a connection that ended since nothing came
abbrev pub EndedInTime : (ℕ → State) → ℕ → ℕ → ConnRecord → Type 0
EndedInTime start first last c = (since : ℕ) → c.cause ≡ Some (Silent since) → HasWaited first last since (wait_by start c.session (messages_of c.taken))
