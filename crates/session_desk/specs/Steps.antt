-- What a session does in a turn: what its library did is gathered, and then it hears a message or the clock, or its connection ends.
use Rattle.std.specs.Prelude.{◌≡◌, ℕ, ◌<◌, nat_lt, Bool, true, false, if◌then◌else◌, List, [], ◌∷◌, ◌++◌, length, slice_get, slice_index_or, slice_set, Option, None, Some, Result, Ok, Err}
use Rattle.std.specs.Result.{result_ok}
use Rattle.fix_fields.specs.Field.{Field}
use Rattle.fix_fields.specs.Reading.{fields_of}
use Rattle.lease_core.specs.State.{state_of}
use Rattle.lease_core.specs.declared.entry.Entry.{Entry}
use Rattle.lease_desk.specs.Desk.{Gathers, GoesOn, IsInStep}
use Rattle.lease_desk.specs.declared.desk.LeaseDesk.{LeaseDesk}
use Rattle.lease_words.specs.Views.{EngineView}
use Rattle.session_book.specs.Records.{HasNoted, Pending, after_bind_note, after_note}
use Rattle.session_core.specs.Receive.{receive}
use Rattle.session_core.specs.Route.{route, session_of}
use Rattle.session_core.specs.Runs.{binds as is_logon}
use Rattle.session_core.specs.Tick.{tick}
use Rattle.session_core.specs.declared.causes.Cause.{Cause}
use Rattle.session_core.specs.declared.causes.Cause.TheVariants.{Duplicate, LowNumber, NotLogon}
use Rattle.session_core.specs.declared.names.Names.{Names}
use Rattle.session_desk.specs.declared.routes.Routes.{Routes}
use Rattle.switchboard.specs.Board.{Board, book_at, connection_at, place_at}
use Rattle.switchboard.specs.Going.{GoesOnTo, KeepsBytes}
use Rattle.switchboard.specs.Happenings.{Happening, Happens, Reaches, answers, binds, binds_and_ends, dials, ends_bound, ends_unbound, lapses, receives, ticks}
use Rattle.switchboard.specs.Ready.{IsReady}
use Rattle.switchboard.specs.Sound.{IsSameLine, bound_of}

-- a board behind a run, whatever entries the sessions had as it began
pub record IsBehindRun (board : Board) : Type 0 where
  pub before : ℕ → List Entry
  pub ready : IsReady before board

-- what holds between two steps
pub record IsSteady (board : Board) (seat : EngineView) : Type 0 where
  pub run : IsBehindRun board
  pub in_step : IsInStep board seat

-- sessions and connections go on, each session by no new lease, and no bytes come or are written
pub record Proceeds (old new : Board) : Type 0 where
  pub goes_on : GoesOnTo old new
  pub leases : (s : ℕ) → GoesOn old new s
  pub bytes : (k : ℕ) → k < length old.connections → KeepsBytes (connection_at old k) (connection_at new k)

-- the same connections, each bound as before, and standing or ended as before
pub record HaveSameLines (old new : Board) : Type 0 where
  pub count : length new.connections ≡ length old.connections
  pub each : (k : ℕ) → IsSameLine (connection_at old k) (connection_at new k)

-- what is heard answers the Logon of a dialled connection, unless another cause than a low number ends that
abbrev pub is_answer : Option Cause → Bool
is_answer None = true
is_answer (Some (LowNumber expected got)) = true
is_answer (Some _) = false

abbrev pub answering : ℕ → Option Cause → List Happening
answering k end = if is_answer end then answers k ∷ [] else []

-- the connection of a session ends, if there are a cause and a connection
abbrev pub ending : ℕ → Option ℕ → Option Cause → List Happening
ending s (Some k) (Some cause) = ends_bound s k cause ∷ []
ending s place end = []

-- a reservation lapses whose time is over
abbrev pub lapsing : ℕ → Option (ℕ × ℕ) → ℕ → List Happening
lapsing s None at = []
lapsing s (Some reserved) at = if nat_lt at reserved.1 then [] else lapses s ∷ []

-- no entry of a session was handed out, and none was noted
abbrev pub nothing_noted : Pending
nothing_noted = record { handed = 0; expected = [] }

-- how many entries of a session were handed out, and what was noted of those behind them
abbrev pub pending_at : List Pending → ℕ → Pending
pending_at unkept s = slice_index_or unkept s nothing_noted

-- what was noted of each session are entries that it has
pub record AreNoted (unkept : List Pending) (board : Board) : Type 0 where
  pub count : length unkept ≡ length board.sessions
  pub each : (s : ℕ) → s < length board.sessions → HasNoted (pending_at unkept s) (book_at board s)

-- the entries that came of a session are noted, with the number that it expects now
abbrev pub noted : ℕ → Board → List Pending → List Pending
noted s board unkept = slice_set unkept s (after_note (book_at board s) (pending_at unkept s))

-- those of a bind are noted, of which the first has the number that was expected before
abbrev pub bind_noted : ℕ → ℕ → Board → List Pending → List Pending
bind_noted s before board unkept = slice_set unkept s (after_bind_note before (book_at board s) (pending_at unkept s))

-- A session hears a message on its connection.
pub record Hears (s k : ℕ) (body : List ℕ) (at until : ℕ) (old new : LeaseDesk) (unkept_old unkept_new : List Pending) (end : Option Cause) : Type 0 where
  pub gathered : LeaseDesk
  pub gathers : Gathers s at until old gathered
  pub notes : unkept_new ≡ noted s gathered.board unkept_old
  pub end_is : end ≡ (receive (book_at gathered.board s).machine body at).end
  pub follows : Reaches (receives s k body at ∷ (answering k end ++ ending s (Some k) end)) gathered.board new.board
  pub seat : new.seat ≡ gathered.seat

-- A session hears the clock: a reservation lapses whose time is over, and then the session does what is due.
pub record Ticks (s at until : ℕ) (old new : LeaseDesk) (end : Option Cause) : Type 0 where
  pub gathered : LeaseDesk
  pub lapsed : Board
  pub gathers : Gathers s at until old gathered
  pub lapses : Reaches (lapsing s (state_of (book_at gathered.board s).entries).reserved at) gathered.board lapsed
  pub end_is : end ≡ (tick (book_at lapsed s).machine at).end
  pub follows : Reaches (ticks s at ∷ ending s (place_at lapsed s) end) lapsed new.board
  pub seat : new.seat ≡ gathered.seat

-- A connection ends by a cause, and the session that is bound to it leaves it.
abbrev pub parting : Option ℕ → ℕ → Cause → Happening
parting (Some s) k cause = ends_bound s k cause
parting None k cause = ends_unbound k cause

-- A session dials: what its library did is gathered, and then it is bound to a connection, the next one, and asks for a Logon.
pub record DialsTo (s number at until : ℕ) (old new : LeaseDesk) : Type 0 where
  pub gathered : LeaseDesk
  pub gathers : Gathers s at until old gathered
  pub dials : Happens (dials s number at) gathered.board new.board
  pub seat : new.seat ≡ gathered.seat

-- the routes are the names of sessions that accept
pub record IsRoute (board : Board) (s : ℕ) (names : Names) : Type 0 where
  pub within : s < length board.sessions
  pub accepts : (book_at board s).machine.dials ≡ None
  pub names_are : (book_at board s).machine.names ≡ names

pub record AreRoutes (board : Board) (routes : Routes) : Type 0 where
  pub count : length routes.sessions.items ≡ length routes.names.items
  pub each : (j s : ℕ) (names : Names) → slice_get routes.sessions.items j ≡ Some s → slice_get routes.names.items j ≡ Some names → IsRoute board s names

-- the connection to which the session of this route is bound
abbrev pub bound_on : Board → Routes → Option ℕ → Option ℕ
bound_on board routes None = None
bound_on board routes (Some j) = bound_of (book_at board (slice_index_or routes.sessions.items j 0))

-- Where the session is bound already, that refuses the message, unless it is no Logon.
abbrev pub unless_bound : Option ℕ → Result ℕ Cause → Result ℕ Cause
unless_bound (Some connection) (Err NotLogon) = Err NotLogon
unless_bound (Some connection) routed = Err (Duplicate connection)
unless_bound None routed = routed

abbrev pub session_on : Routes → Result ℕ Cause → Result ℕ Cause
session_on routes (Ok j) = Ok (slice_index_or routes.sessions.items j 0)
session_on routes (Err cause) = Err cause

-- The session to which the first message of a connection binds it, or the cause by which the connection ends (FIX 4.4, volume 2, "Logon").
abbrev pub greeting : Board → Routes → Option (List Field) → Result ℕ Cause
greeting board routes None = Err NotLogon
greeting board routes (Some fields) =
    session_on routes (unless_bound (bound_on board routes (session_of fields routes.names.items)) (route fields routes.names.items))

-- it is a Logon of some names
pub record IsLogon (body : List ℕ) : Type 0 where
  pub names : List Names
  pub is : is_logon names body ≡ true

-- a session is bound, and where its Logon ends the connection, leaves that at once
abbrev pub binding : ℕ → ℕ → List ℕ → ℕ → Option Cause → Happening
binding s k body at None = binds s k body at
binding s k body at (Some cause) = binds_and_ends s k body at cause

-- A session is bound to a connection by its Logon: what its library did is gathered before.
pub record BindsBy (s k : ℕ) (body : List ℕ) (at until : ℕ) (old new : LeaseDesk) (unkept_old unkept_new : List Pending) (end : Option Cause) : Type 0 where
  pub gathered : LeaseDesk
  pub gathers : Gathers s at until old gathered
  pub end_is : end ≡ (receive (book_at gathered.board s).machine body at).end
  pub binds : Happens (binding s k body at end) gathered.board new.board
  pub notes : unkept_new ≡ bind_noted s (book_at gathered.board s).machine.line.expected new.board (noted s gathered.board unkept_old)
  pub seat : new.seat ≡ gathered.seat

-- A connection is refused.
pub record Refuses (k : ℕ) (cause : Cause) (old new : LeaseDesk) (unkept_old unkept_new : List Pending) (end : Option Cause) : Type 0 where
  pub ends : Happens (ends_unbound k cause) old.board new.board
  pub end_is : end ≡ Some cause
  pub notes : unkept_new ≡ unkept_old
  pub seat : new.seat ≡ old.seat

-- The first message of a connection binds a session, or is refused.
abbrev pub GreetsAs : Result ℕ Cause → ℕ → List ℕ → ℕ → ℕ → LeaseDesk → LeaseDesk → List Pending → List Pending → Option Cause → Type 0
GreetsAs (Ok s) k body at until old new unkept_old unkept_new end = BindsBy s k body at until old new unkept_old unkept_new end
GreetsAs (Err cause) k body at until old new unkept_old unkept_new end = Refuses k cause old new unkept_old unkept_new end

abbrev pub Greets : Routes → ℕ → List ℕ → ℕ → ℕ → LeaseDesk → LeaseDesk → List Pending → List Pending → Option Cause → Type 0
Greets routes k body at until old new unkept_old unkept_new end =
    GreetsAs (greeting old.board routes (result_ok (fields_of body))) k body at until old new unkept_old unkept_new end
