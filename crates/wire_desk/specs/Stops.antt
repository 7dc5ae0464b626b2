-- Where what is done at the wire stops for want of memory.
use Rattle.std.specs.Prelude.{◌≡◌, ℕ, ◌+◌, ◌<◌, ◌⊎◌, List, [], ◌∷◌, length, Option, None, Some}
use Rattle.fix_frame.specs.Cut.{good}
use Rattle.gate_io.specs.declared.wires.TheConstants.{FIRST_DIALLED}
use Rattle.gate_io.specs.declared.wires.WireGot.{WireGot}
use Rattle.lease_desk.specs.Desk.{InTurn}
use Rattle.lease_desk.specs.declared.desk.LeaseDesk.{LeaseDesk}
use Rattle.session_desk.specs.Stops.{StopsDialling, StopsGreeting, StopsHearing}
use Rattle.session_desk.specs.declared.routes.Routes.{Routes}
use Rattle.switchboard.specs.Board.{connection_at}
use Rattle.switchboard.specs.Happenings.{Happens, gives, next_pieces, takes}
use Rattle.switchboard.specs.Stops.{NothingIsTold}
use Rattle.wire_desk.specs.Steps.{HandlesNext, Reads, ReadsAs, Sessions, WritesInTurn, WrittenSoFar, sessions_of}

-- the session to which the connection is bound hears a message, or it is the connection's first
abbrev pub StopsInBody : Option ℕ → ℕ → List ℕ → ℕ → ℕ → LeaseDesk → LeaseDesk → Type 0
StopsInBody (Some s) k body at until old new = StopsHearing s k body at until old new
StopsInBody None k body at until old new = StopsGreeting k body at until old new

-- A message is handed out, and isn't all handled.
pub record StopsBehindPiece (k at until : ℕ) (old new : LeaseDesk) : Type 0 where
  pub body : List ℕ
  pub given : LeaseDesk
  pub is_next : next_pieces (connection_at old.board k) ≡ good body ∷ []
  pub gives : Happens (gives k) old.board given.board
  pub seat : given.seat ≡ old.seat
  pub stops : StopsInBody (connection_at old.board k).session k body at until given new

-- the next piece isn't handed out, or not all handled
abbrev pub StopsInPiece : ℕ → ℕ → ℕ → LeaseDesk → LeaseDesk → Type 0
StopsInPiece k at until old new = NothingIsTold old.board new.board ⊎ StopsBehindPiece k at until old new

-- So many pieces of a connection are handled, and then memory is wanting.
pub record StopsInPieces (routes : Routes) (k at until : ℕ) (old : Sessions) (new : LeaseDesk) : Type 0 where
  pub count : ℕ
  pub between : Sessions
  pub handles : InTurn (λ i. HandlesNext routes k at until) count old between
  pub stops : StopsInPiece k at until between.desk new

-- Bytes came on a connection, and not all that they bring is handled.
pub record StopsBehindBytes (routes : Routes) (k at until : ℕ) (old : Sessions) (new : LeaseDesk) : Type 0 where
  pub bytes : List ℕ
  pub taken : LeaseDesk
  pub takes : Happens (takes k bytes) old.desk.board taken.board
  pub seat : taken.seat ≡ old.desk.seat
  pub stops : StopsInPieces routes k at until (sessions_of taken old.unkept) new

-- what a read gave is handled, and nothing more is told
pub record StopsBehindGot (routes : Routes) (k at until : ℕ) (old : Sessions) (new : LeaseDesk) : Type 0 where
  pub got : WireGot
  pub buffer : List ℕ
  pub between : Sessions
  pub reads : ReadsAs got routes k buffer at until old between
  pub stops : NothingIsTold between.desk.board new.board

-- A connection that stands is read.
abbrev pub StopsReading : Routes → ℕ → ℕ → ℕ → Sessions → LeaseDesk → Type 0
StopsReading routes k at until old new = NothingIsTold old.desk.board new.board ⊎ (StopsBehindBytes routes k at until old new ⊎ StopsBehindGot routes k at until old new)

-- A session dials, where that is due. The wire, of which so many were dialled, gave the next number.
abbrev pub StopsCalling : ℕ → ℕ → ℕ → ℕ → LeaseDesk → LeaseDesk → Type 0
StopsCalling dialled s at until old new = NothingIsTold old.board new.board ⊎ StopsDialling s (FIRST_DIALLED + dialled) at until old new

-- So many connections are written to, and then memory is wanting.
pub record StopsWriting (places : List ℕ) (old : WrittenSoFar) (new : LeaseDesk) : Type 0 where
  pub count : ℕ
  pub few : count < length places
  pub between : WrittenSoFar
  pub writes : WritesInTurn places count old between
  pub stops : NothingIsTold between.sessions.desk.board new.board
