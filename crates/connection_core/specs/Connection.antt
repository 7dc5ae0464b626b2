-- One connection: what was taken of it, the pieces handed out so far, what is to be written, and its end.
use Rattle.std.specs.Prelude.{◌≡◌, ℕ, ◌+◌, ◌-◌, ◌≤◌, Bool, true, false, nat_lt, if◌then◌else◌, List, [], ◌++◌, length, drop, sum_by, Option, None, Some, option_map, unwrap_or}
use Rattle.fix_frame.specs.declared.layout.TheConstants.{LONGEST_FRAME, LEAST_ROOM}
use Rattle.fix_frame.specs.Cut.{CutPiece, good, garbled, Found, IsCutSoFar, piece_at}
use Rattle.session_core.specs.declared.causes.Cause.{Cause}
use Rattle.session_core.specs.declared.causes.Cause.TheVariants.{SlowConsumer}
use Rattle.connection_core.specs.declared.limits.TheConstants.{LOGON_WAIT, MOST_WAITING}
use Rattle.connection_core.specs.Outgoing.{Outlet, waiting_count}

pub record ConnectionState : Type 0 where
  pub number : ℕ
  -- the moment of its acceptance or its dial
  pub since : ℕ
  pub dialled : Bool
  -- the Logon of a dialled one was answered; an accepted one counts as answered
  pub answered : Bool
  -- all bytes that came, and those of them that are behind the pieces handed out
  pub taken : List ℕ
  pub held : List ℕ
  pub garbled : ℕ
  -- the session to which it is bound
  pub session : Option ℕ
  pub out : Outlet
  -- why it ended; None while it stands
  pub cause : Option Cause

-- an accepted one of which nothing came
abbrev pub fresh : ℕ → ℕ → Outlet → ConnectionState
fresh number since out =
    record { number = number; since = since; dialled = false; answered = true; taken = []; held = []; garbled = 0; session = None; out = out; cause = None }

-- one that was dialled for a session
abbrev pub fresh_dial : ℕ → ℕ → ℕ → Outlet → ConnectionState
fresh_dial number since session out =
    record (fresh number since out) { dialled = true; answered = false; session = Some session }

-- how many bytes it takes in now
abbrev pub room : ConnectionState → ℕ
room state = LONGEST_FRAME + LEAST_ROOM - length state.held

-- how many bytes of a piece belong to no frame
abbrev pub garbled_in : CutPiece → ℕ
garbled_in (good body) = 0
garbled_in (garbled size) = size

-- These pieces were handed out so far: they are those of the cut of all that was taken, up to what is held, and the garbled ones among them are counted.
pub record IsGiven (state : ConnectionState) (pieces : List CutPiece) : Type 0 where
  pub so_far : IsCutSoFar LONGEST_FRAME state.taken pieces state.held
  pub counted : state.garbled ≡ sum_by garbled_in pieces

-- once some bytes came
abbrev pub after_taking : List ℕ → ConnectionState → ConnectionState
after_taking bytes state = record state { taken = state.taken ++ bytes; held = state.held ++ bytes }

-- what is held behind the piece that was found, if one was
abbrev pub held_behind : Option Found → List ℕ → List ℕ
held_behind None held = held
held_behind (Some found) held = drop found.size held

-- how many bytes of the piece belong to no frame, if there is one
abbrev pub garbled_of : Option CutPiece → ℕ
garbled_of None = 0
garbled_of (Some piece) = garbled_in piece

-- once the next piece is handed out, if there is one
abbrev pub after_next : ConnectionState → ConnectionState
after_next state =
    let next = piece_at LONGEST_FRAME state.held in
    record state { held = held_behind next state.held; garbled = state.garbled + garbled_of (option_map (λ found. found.piece) next) }

-- once it ends by a cause: the first one counts
abbrev pub after_end : Cause → ConnectionState → ConnectionState
after_end cause state = record state { cause = Some (unwrap_or state.cause cause) }

-- it was accepted, and no Logon came in time
pub record IsLate (state : ConnectionState) (moment : ℕ) : Type 0 where
  pub accepted : state.dialled ≡ false
  pub unbound : state.session ≡ None
  pub waited : state.since + LOGON_WAIT ≤ moment

-- the cause by which a connection ends on which so many items wait
abbrev pub cause_of_count : ℕ → Option Cause
cause_of_count count = if nat_lt MOST_WAITING count then Some (SlowConsumer count) else None

-- the cause by which it ends where too many items wait
abbrev pub slow_cause : ConnectionState → Option Cause
slow_cause state = cause_of_count (waiting_count state.out.outgoing)
