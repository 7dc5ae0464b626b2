-- Whole runs of a session: what its connections handle, and what follows from it.
use Rattle.std.specs.Prelude.{◌≡◌, ℕ, Bool, false, not, ◌||◌, is_ok, is_some, IsNone, IsSome, List, [], ◌∷◌, ◌++◌, Option, None, Some, if◌then◌else◌}
use Rattle.std.specs.List.{flat_map}
use Rattle.std.specs.Result.{result_ok}
use Rattle.fix_fields.specs.Field.{Field}
use Rattle.fix_fields.specs.Reading.{fields_of}
use Rattle.session_core.specs.Ask.{ask, after_ask}
use Rattle.session_core.specs.Receive.{receive, after_receive}
use Rattle.session_core.specs.Route.{route}
use Rattle.session_core.specs.State.{State, after_leave}
use Rattle.session_core.specs.Tick.{after_tick}
use Rattle.session_core.specs.declared.acts.Act.{Act}
use Rattle.session_core.specs.declared.causes.Cause.{Cause}
use Rattle.session_core.specs.declared.names.Names.{Names}

-- the session behind a message, at any moment: the acts and the end of those that follow are the same at each
abbrev pub behind : State → List ℕ → State
behind state body = after_receive state body 0

-- the session behind the messages of a connection, in order
abbrev pub behind_all : State → List (List ℕ) → State
behind_all state [] = state
behind_all state (body ∷ bodies) = behind_all (behind state body) bodies

-- the acts that follow from them
abbrev pub acts_on : State → List (List ℕ) → List Act
acts_on state [] = []
acts_on state (body ∷ bodies) = (receive state body 0).acts ++ acts_on (behind state body) bodies

-- the acts of one connection: the Logon of a session that dials, and then those of the messages that it handles
abbrev pub connection_acts : State → List (List ℕ) → List Act
connection_acts state bodies = (ask state).acts ++ acts_on (after_ask state 0) bodies

-- the session behind a connection that ended
abbrev pub after_connection : State → List (List ℕ) → State
after_connection state bodies = after_leave (behind_all (after_ask state 0) bodies)

-- the session behind all of these connections
abbrev pub after_connections : State → List (List (List ℕ)) → State
after_connections state [] = state
after_connections state (bodies ∷ connections) = after_connections (after_connection state bodies) connections

-- the acts that follow from the handled messages of a session's connections, in order, each connection with its end
abbrev pub acts_of : State → List (List (List ℕ)) → List Act
acts_of state [] = []
acts_of state (bodies ∷ connections) = connection_acts state bodies ++ acts_of (after_connection state bodies) connections

-- the first message binds its connection to a session
abbrev pub routes : List Names → Option (List Field) → Bool
routes names None = false
routes names (Some fields) = is_ok (route fields names)

abbrev pub binds : List Names → List ℕ → Bool
binds names body = routes names (result_ok (fields_of body))

-- nothing, where the connection ended
abbrev pub unless_ended : Option Cause → List (List ℕ) → List (List ℕ)
unless_ended None bodies = bodies
unless_ended (Some cause) bodies = []

-- the messages of a bound session, up to the one that ends the connection, that one included
abbrev pub until_end : State → List (List ℕ) → List (List ℕ)
until_end state [] = []
until_end state (body ∷ bodies) =
    body ∷ unless_ended (receive state body 0).end (until_end (behind state body) bodies)

-- What a connection handles of the messages that it brings: all up to the one that ends it, that one included. The
-- first is refused by its fields, or ends the connection as the session is bound already, or binds it.
abbrev pub handled_bodies : List Names → State → Option ℕ → List (List ℕ) → List (List ℕ)
handled_bodies names state bound [] = []
handled_bodies names state bound (body ∷ bodies) =
    if not (binds names body) || is_some bound then body ∷ [] else until_end state (body ∷ bodies)

-- the same of a connection that the session dialled
abbrev pub dialled_bodies : State → List (List ℕ) → List (List ℕ)
dialled_bodies state bodies = until_end (after_ask state 0) bodies

-- none of the messages ends the connection
abbrev pub NoneEnds : State → List (List ℕ) → Type 0
NoneEnds state [] = Unit {0}
NoneEnds state (body ∷ bodies) = IsNone (receive state body 0).end × NoneEnds (behind state body) bodies

-- the last of the messages ends the connection, and none before it
pub record LastEnds (state : State) (bodies : List (List ℕ)) : Type 0 where
  pub before : List (List ℕ)
  pub last : List ℕ
  pub are : bodies ≡ before ++ last ∷ []
  pub none_before : NoneEnds state before
  pub ends : IsSome (receive (behind_all state before) last 0).end

-- what a session meets while a connection stands, each at its moment: a message comes, the clock ticks, or an item is
-- queued
pub data Event : Type 0 where
  comes : List ℕ → ℕ → Event
  ticks : ℕ → Event
  queues : ℕ → Event

abbrev pub after_event : State → Event → State
after_event state (comes body moment) = after_receive state body moment
after_event state (ticks moment) = after_tick state moment
after_event state (queues moment) = record state { sent = moment }

abbrev pub after_events : State → List Event → State
after_events state [] = state
after_events state (event ∷ events) = after_events (after_event state event) events

-- the acts that follow from the messages among them
abbrev pub message_acts : State → Event → List Act
message_acts state (comes body moment) = (receive state body moment).acts
message_acts state (ticks moment) = []
message_acts state (queues moment) = []

abbrev pub acts_in : State → List Event → List Act
acts_in state [] = []
acts_in state (event ∷ events) = message_acts state event ++ acts_in (after_event state event) events

-- the bodies of the messages among them
abbrev pub body_of : Event → List (List ℕ)
body_of (comes body moment) = body ∷ []
body_of (ticks moment) = []
body_of (queues moment) = []

abbrev pub bodies_in : List Event → List (List ℕ)
bodies_in events = flat_map body_of events

-- two states of a session that differ in moments alone
pub record SameButMoments (s t : State) : Type 0 where
  pub names : s.names ≡ t.names
  pub dials : s.dials ≡ t.dials
  pub phase : s.phase ≡ t.phase
  pub line : s.line ≡ t.line
