-- What is asked of the wire for a connection, and what follows from its answer.
use Rattle.std.specs.Prelude.{◌≡◌, ◌≢◌, ℕ, Bool, true, false, ◌+◌, ◌<◌, ◌≤◌, ◌⊎◌, List, [], ◌∷◌, length, slice_index_or, slice_set, take, Option, None, Some, IsSome, if◌then◌else◌}
use Rattle.std.specs.List.{AllPairs}
use Rattle.connection_core.specs.Connection.{ConnectionState, IsLate, slow_cause}
use Rattle.connection_core.specs.Outgoing.{after_preparing, after_preparing_first, waiting_text}
use Rattle.connection_core.specs.declared.limits.TheConstants.{MOST_WRITTEN}
use Rattle.fix_frame.specs.Cut.{CutPiece, garbled, good}
use Rattle.gate_io.specs.Counts.{HasRisen}
use Rattle.gate_io.specs.Wire.{Door, Link, LinkGoesOn, OthersStay}
use Rattle.gate_io.specs.declared.wires.Accepted.{Accepted}
use Rattle.gate_io.specs.declared.wires.Accepted.TheVariants as accept
use Rattle.gate_io.specs.declared.wires.WireGot.{WireGot}
use Rattle.gate_io.specs.declared.wires.WireGot.TheVariants as got
use Rattle.lease_desk.specs.Desk.{GoesOn, InTurn}
use Rattle.lease_desk.specs.declared.desk.LeaseDesk.{LeaseDesk}
use Rattle.session_book.specs.Records.{Pending}
use Rattle.session_core.specs.declared.causes.Cause.{Cause}
use Rattle.session_core.specs.declared.causes.Cause.TheVariants.{End, ReadFault, Silent, WriteFault}
use Rattle.session_desk.specs.Steps.{Greets, Hears, parting}
use Rattle.session_desk.specs.declared.routes.Routes.{Routes}
use Rattle.switchboard.specs.Board.{Board, book_at, connection_at, names_at}
use Rattle.switchboard.specs.Going.{GoesOnTo, IsWrittenAsBefore, KeepsBytes}
use Rattle.switchboard.specs.Happenings.{Happens, accepts, gives, next_pieces, prepares, takes, writes}
use Rattle.wire_desk.specs.Lines.{IsOnWire, IsOpenPlace}
use Rattle.wire_desk.specs.Planned.{TurnsAsPlanned}
use Rattle.wire_desk.specs.declared.written.Stop.{Stop}
use Rattle.wire_desk.specs.declared.written.Stop.TheVariants.{AllTaken, Blocked, Failed, MostWritten}
use Rattle.wire_desk.specs.declared.written.Written.{Written}
use Rattle.wire_desk.specs.declared.written.Wrote.{Wrote}
use Rattle.wire_desk.specs.declared.written.Wrote.TheVariants.{Bytes, Stopped}

-- the sessions, and what was noted of their entries
pub record Sessions : Type 0 where
  pub desk : LeaseDesk
  pub unkept : List Pending

abbrev pub sessions_of : LeaseDesk → List Pending → Sessions
sessions_of desk unkept = record { desk = desk; unkept = unkept }

-- sessions and connections go on, each session by no new lease, and bytes come on this connection alone
pub record Progresses (k : ℕ) (old new : Board) : Type 0 where
  pub goes_on : GoesOnTo old new
  pub leases : (s : ℕ) → GoesOn old new s
  pub count : length new.connections ≡ length old.connections
  pub others : (j : ℕ) → j ≢ k → j < length old.connections → KeepsBytes (connection_at old j) (connection_at new j)
  pub written : IsWrittenAsBefore (connection_at old k) (connection_at new k)

-- sessions and connections are as they were, but for texts that are made and bytes that are written on this connection
pub record GoesOnWriting (k : ℕ) (old new : Board) : Type 0 where
  pub sessions : new.sessions ≡ old.sessions
  pub places : new.places ≡ old.places
  pub connections : new.connections ≡ slice_set old.connections k (record (connection_at old k) { out = (connection_at new k).out })

-- what came on a connection is as it was
pub record KeepsWhatCame (old new : ConnectionState) : Type 0 where
  pub taken : new.taken ≡ old.taken
  pub held : new.held ≡ old.held
  pub garbled : new.garbled ≡ old.garbled

-- sessions and connections go on, each session by no new lease, no bytes come, and bytes are written on this connection alone
pub record ProgressesWriting (k : ℕ) (old new : Board) : Type 0 where
  pub goes_on : GoesOnTo old new
  pub leases : (s : ℕ) → GoesOn old new s
  pub count : length new.connections ≡ length old.connections
  pub others : (j : ℕ) → j ≢ k → j < length old.connections → KeepsBytes (connection_at old j) (connection_at new j)
  pub came : KeepsWhatCame (connection_at old k) (connection_at new k)

-- sessions and connections go on, each session by no new lease, and no bytes come
pub record ProgressesUnread (old new : Board) : Type 0 where
  pub goes_on : GoesOnTo old new
  pub leases : (s : ℕ) → GoesOn old new s
  pub count : length new.connections ≡ length old.connections
  pub came : (k : ℕ) → k < length old.connections → KeepsWhatCame (connection_at old k) (connection_at new k)

-- the wire accepted a connection, or it didn't
abbrev pub AcceptsAs : Accepted → ℕ → LeaseDesk → LeaseDesk → Type 0
AcceptsAs (accept.New c) at old new = Happens (accepts c at) old.board new.board × (new.seat ≡ old.seat)
AcceptsAs accept.Nothing at old new = new ≡ old
AcceptsAs accept.Failed at old new = new ≡ old

-- a message is heard by the session that is bound to its connection, or is the connection's first
abbrev pub HandlesBody : Option ℕ → Routes → ℕ → List ℕ → ℕ → ℕ → Sessions → Sessions → Type 0
HandlesBody (Some s) routes k body at until old new = (end : Option Cause) × Hears s k body at until old.desk new.desk old.unkept new.unkept end
HandlesBody None routes k body at until old new = (end : Option Cause) × Greets routes k body at until old.desk new.desk old.unkept new.unkept end

-- garbled bytes ask for nothing
abbrev pub Handles : CutPiece → Routes → ℕ → ℕ → ℕ → Sessions → Sessions → Type 0
Handles (garbled size) routes k at until old new = new ≡ old
Handles (good body) routes k at until old new = HandlesBody (connection_at old.desk.board k).session routes k body at until old new

-- The next piece of a connection that stands is handed out and handled.
pub record HandlesNext (routes : Routes) (k at until : ℕ) (old new : Sessions) : Type 0 where
  pub piece : CutPiece
  pub given : LeaseDesk
  pub stood : (connection_at old.desk.board k).cause ≡ None
  pub is_next : next_pieces (connection_at old.desk.board k) ≡ piece ∷ []
  pub gives : Happens (gives k) old.desk.board given.board
  pub seat : given.seat ≡ old.desk.seat
  pub handles : Handles piece routes k at until (sessions_of given old.unkept) new

-- there is no further piece
pub record FindsNone (k : ℕ) (old new : Sessions) : Type 0 where
  pub none : next_pieces (connection_at old.desk.board k) ≡ []
  pub gives : Happens (gives k) old.desk.board new.desk.board
  pub seat : new.desk.seat ≡ old.desk.seat
  pub unkept : new.unkept ≡ old.unkept

-- the connection has ended, or there is no further piece
abbrev pub StopsAt : ℕ → Sessions → Sessions → Type 0
StopsAt k old new = (((connection_at old.desk.board k).cause ≢ None) × (new ≡ old)) ⊎ FindsNone k old new

-- the next piece was handled, or nothing is handled any more
abbrev pub HandlesOrStops : Bool → Routes → ℕ → ℕ → ℕ → Sessions → Sessions → Type 0
HandlesOrStops true routes k at until old new = HandlesNext routes k at until old new
HandlesOrStops false routes k at until old new = StopsAt k old new

-- The pieces of a connection are handled one after another, until it ends or there is no further one.
pub record HandlesAll (routes : Routes) (k at until : ℕ) (old new : Sessions) : Type 0 where
  pub count : ℕ
  pub between : Sessions
  pub handles : InTurn (λ i. HandlesNext routes k at until) count old between
  pub stops : StopsAt k between new

-- pieces were handled so far, and there may be further ones, or all were: cited by proofs alone
abbrev pub HandledSoFar : Bool → Routes → ℕ → ℕ → ℕ → Sessions → Sessions → Type 0
HandledSoFar true routes k at until old new = (count : ℕ) × InTurn (λ i. HandlesNext routes k at until) count old new
HandledSoFar false routes k at until old new = HandlesAll routes k at until old new

-- bytes came on a connection, and their pieces are handled
pub record TakesBytes (routes : Routes) (k : ℕ) (bytes : List ℕ) (at until : ℕ) (old new : Sessions) : Type 0 where
  pub taken : LeaseDesk
  pub takes : Happens (takes k bytes) old.desk.board taken.board
  pub seat : taken.seat ≡ old.desk.seat
  pub handles : HandlesAll routes k at until (sessions_of taken old.unkept) new

-- a connection ends by a cause
pub record PartsBy (k : ℕ) (cause : Cause) (old new : Sessions) : Type 0 where
  pub parts : Happens (parting (connection_at old.desk.board k).session k cause) old.desk.board new.desk.board
  pub seat : new.desk.seat ≡ old.desk.seat
  pub unkept : new.unkept ≡ old.unkept

-- what follows from what a read gave, with the bytes at the front of the buffer
abbrev pub ReadsAs : WireGot → Routes → ℕ → List ℕ → ℕ → ℕ → Sessions → Sessions → Type 0
ReadsAs (got.Bytes n) routes k buffer at until old new = TakesBytes routes k (take n buffer) at until old new
ReadsAs got.End routes k buffer at until old new = PartsBy k End old new
ReadsAs got.Failed routes k buffer at until old new = PartsBy k ReadFault old new
ReadsAs got.Blocked routes k buffer at until old new = new ≡ old

-- the connection stands, and no Logon came on it in time
pub record IsTardy (board : Board) (k at : ℕ) : Type 0 where
  pub stands : (connection_at board k).cause ≡ None
  pub late : IsLate (connection_at board k) at

-- such a one ends
abbrev pub LeavesIfTardy : ℕ → ℕ → Sessions → Sessions → Type 0
LeavesIfTardy k at old new =
    (IsTardy old.desk.board k at × PartsBy k (Silent (connection_at old.desk.board k).since) old new) ⊎ ((IsTardy old.desk.board k at → ⊥) × (new ≡ old))

-- A connection that stands is read once.
pub record Reads (got : WireGot) (routes : Routes) (k : ℕ) (buffer : List ℕ) (at until : ℕ) (old new : Sessions) : Type 0 where
  pub between : Sessions
  pub reads : ReadsAs got routes k buffer at until old between
  pub tardy : LeavesIfTardy k at between new

-- what is made of the texts that wait on a connection before it is written
abbrev pub PreparesTo : Option ℕ → ℕ → Board → Board → Type 0
PreparesTo None k old new = new ≡ old
PreparesTo (Some s) k old new = Happens (prepares s k) old new
    × ((connection_at new k).out.outgoing ≡ (
    if (connection_at old k).answered then after_preparing (names_at old s) (book_at old s).outbound MOST_WRITTEN (connection_at old k).out.outgoing
    else after_preparing_first (names_at old s) (book_at old s).outbound (connection_at old k).out.outgoing))

-- so many of the bytes that wait were written, or none
abbrev pub WritesSome : ℕ → ℕ → Board → Board → Type 0
WritesSome k n old new = ((n ≡ 0) × (new ≡ old)) ⊎ Happens (writes k n) old new

-- Why a connection was written to no further.
abbrev pub HasStopped : Stop → ℕ → ConnectionState → Link → Link → Type 0
HasStopped AllTaken bytes c old new = waiting_text c.out.outgoing ≡ []
HasStopped MostWritten bytes c old new = bytes ≡ MOST_WRITTEN
HasStopped Blocked bytes c old new = HasRisen old.write_blocks new.write_blocks
HasStopped Failed bytes c old new = HasRisen old.write_faults new.write_faults

-- the cause by which a connection that stands ends once it was written to, if one does; one that has ended has its cause
abbrev pub cause_by : Stop → ConnectionState → Option Cause
cause_by Failed c = Some WriteFault
cause_by stop c = slow_cause c

abbrev pub unless_ended : Option Cause → Option Cause → Option Cause
unless_ended None cause = cause
unless_ended (Some before) cause = None

abbrev pub cause_behind : Stop → ConnectionState → Option Cause
cause_behind stop c = unless_ended c.cause (cause_by stop c)

abbrev pub PartsIfNeeded : Option Cause → ℕ → Board → Board → Type 0
PartsIfNeeded None k old new = new ≡ old
PartsIfNeeded (Some cause) k old new = Happens (parting (connection_at old k).session k cause) old new

-- what came of one write
abbrev pub WritesOnce : ℕ → ℕ → Wrote → Link → Link → Board → Board → Type 0
WritesOnce limit k (Bytes n) link_old link_new old new = (0 < n) × ((n ≤ limit) × Happens (writes k n) old new)
WritesOnce limit k (Stopped AllTaken) link_old link_new old new = (waiting_text (connection_at old k).out.outgoing ≡ []) × (new ≡ old)
WritesOnce limit k (Stopped MostWritten) link_old link_new old new = ⊥
WritesOnce limit k (Stopped Blocked) link_old link_new old new = HasRisen link_old.write_blocks link_new.write_blocks × (new ≡ old)
WritesOnce limit k (Stopped Failed) link_old link_new old new = HasRisen link_old.write_faults link_new.write_faults × (new ≡ old)

-- each connection is on the wire
abbrev pub AreOnWire : Board → Door → (ℕ → Link) → Type 0
AreOnWire board door links = (k : ℕ) → k < length board.connections → IsOnWire door links (connection_at board k)

-- A connection is written to, as planned where the plan is told. What waits to be read stays.
pub record Writes (written : Written) (k : ℕ) (link_old link_new : Link) (old new : Sessions) : Type 0 where
  pub prepared : Board
  pub wrote : LeaseDesk
  pub prepares : PreparesTo (connection_at old.desk.board k).session k old.desk.board prepared
  pub writes : WritesSome k written.bytes prepared wrote.board
  pub most : written.bytes ≤ MOST_WRITTEN
  pub planned : TurnsAsPlanned link_old (length (waiting_text (connection_at prepared k).out.outgoing)) written link_new
  pub left : link_new.left ≡ link_old.left
  pub seat : wrote.seat ≡ old.desk.seat
  pub stopped : HasStopped written.stop written.bytes (connection_at wrote.board k) link_old link_new
  pub ends : PartsIfNeeded (cause_behind written.stop (connection_at wrote.board k)) k wrote.board new.desk.board
  pub seat_behind : new.desk.seat ≡ wrote.seat
  pub unkept : new.unkept ≡ old.unkept

-- each place is listed once
abbrev pub AreApart : List ℕ → Type 0
AreApart places = AllPairs (λ j k. k ≢ j) places

-- connections at the listed places aren't closed, from the i-th place on
abbrev pub AreOpenFrom : ℕ → Board → (ℕ → Link) → List ℕ → Type 0
AreOpenFrom i board links places = (j : ℕ) → i ≤ j → j < length places → IsOpenPlace board links (slice_index_or places j 0)

-- the sessions, what the wire tells of the connections, and how many bytes were written so far
pub record WrittenSoFar : Type 0 where
  pub sessions : Sessions
  pub links : ℕ → Link
  pub bytes : ℕ

abbrev pub written_so_far : LeaseDesk → List Pending → (ℕ → Link) → ℕ → WrittenSoFar
written_so_far desk unkept links bytes = record { sessions = sessions_of desk unkept; links = links; bytes = bytes }

-- one of the connections is written to, and is closed where it has ended
pub record WritesAt (k : ℕ) (old new : WrittenSoFar) : Type 0 where
  pub written : Written
  pub writes : Writes written k (old.links (connection_at old.sessions.desk.board k).number) (new.links (connection_at old.sessions.desk.board k).number) old.sessions new.sessions
  pub goes_on : LinkGoesOn (old.links (connection_at old.sessions.desk.board k).number) (new.links (connection_at old.sessions.desk.board k).number)
  pub others : OthersStay old.links new.links (connection_at old.sessions.desk.board k).number
  pub closed : IsSome (connection_at new.sessions.desk.board k).cause → (new.links (connection_at old.sessions.desk.board k).number).closed ≡ true
  pub bytes : new.bytes ≡ old.bytes + written.bytes

-- the connections at the listed places are written to, one after another
abbrev pub WritesInTurn : List ℕ → ℕ → WrittenSoFar → WrittenSoFar → Type 0
WritesInTurn places count old new = InTurn (λ i. WritesAt (slice_index_or places i 0)) count old new
