-- The steps of a turn.
use Rattle.std.specs.Prelude.{◌≡◌, ℕ, ◌+◌, ◌<◌, ◌⊎◌, List, [], ◌∷◌, ◌++◌, length, max, min, slice_index_or, Option, None, IfNone, IfSome}
use Rattle.connection_core.specs.declared.limits.TheConstants.{MOST_READ}
use Rattle.engine_loop.specs.Engines.{until_of}
use Rattle.engine_loop.specs.declared.engine.Engine.{Engine}
use Rattle.engine_loop.specs.declared.records.Taken.{Taken}
use Rattle.engine_loop.specs.declared.records.Turn.{Turn}
use Rattle.gate_io.specs.Wire.{Accepts, AcceptsAsPlanned, Dials as TheWireDials, DialsAsPlanned, Door, Link, LinkGoesOn, OthersStay, ReadHasCause, ReadsAsPlanned, WireGivesFrom}
use Rattle.gate_io.specs.declared.clocks.TheConstants.{LAST_MOMENT}
use Rattle.gate_io.specs.declared.wires.Accepted.{Accepted}
use Rattle.gate_io.specs.declared.wires.Accepted.TheVariants.{Failed, New, Nothing}
use Rattle.gate_io.specs.declared.dials.Dialled.{Dialled}
use Rattle.gate_io.specs.declared.wires.TheConstants.{FIRST_DIALLED}
use Rattle.gate_io.specs.declared.wires.WireGot.{WireGot}
use Rattle.lease_core.specs.declared.record.Record.{Record}
use Rattle.lease_desk.specs.Desk.{InTurn}
use Rattle.lease_words.specs.Sees.{after_publish}
use Rattle.lease_words.specs.Views.{engine_at, with_engine_at}
use Rattle.library_desk.specs.Serving.{Serves}
use Rattle.library_desk.specs.declared.serving.LibTurn.{LibTurn}
use Rattle.session_core.specs.declared.causes.Cause.{Cause}
use Rattle.session_desk.specs.Steps.{Ticks, noted}
use Rattle.switchboard.specs.Board.{book_at, connection_at}
use Rattle.wire_desk.specs.Dials.{DialsAs, WaitBehindEnded}
use Rattle.wire_desk.specs.Fresh.{AreHandedOut, fresh_records}
use Rattle.wire_desk.specs.Lines.{standing}
use Rattle.wire_desk.specs.Places.{dialled_behind, listed_behind, open_places}
use Rattle.wire_desk.specs.Steps.{AcceptsAs, Reads, WritesInTurn, sessions_of, written_so_far}

-- a turn begins: its moment is the clock's reading, at most the last moment, or that of the turn before where that is later
abbrev pub with_moment : ℕ → Engine → Engine
with_moment reading e = record e { moment = max e.moment (min reading LAST_MOMENT) }

-- how many connections were accepted behind this answer: one more where one came
abbrev pub accepted_after : Accepted → ℕ → ℕ
accepted_after (New number) count = count + 1
accepted_after Nothing count = count
accepted_after Failed count = count

-- an engine, and what the wire tells
pub record AtWire : Type 0 where
  pub engine : Engine
  pub door : Door
  pub links : ℕ → Link

abbrev pub at_wire : Engine → Door → (ℕ → Link) → AtWire
at_wire engine door links = record { engine = engine; door = door; links = links }

-- The wire is asked for a connection, where fewer were accepted than the run has.
pub record AsksForConnection (answer : Accepted) (old new : AtWire) : Type 0 where
  pub due : old.engine.accepted < old.engine.connections
  pub answers : Accepts old.door new.door new.links answer
  pub planned : AcceptsAsPlanned old.door new.door old.links new.links answer
  pub others : OthersStay old.links new.links old.door.accepted
  pub accepts : AcceptsAs answer old.engine.moment old.engine.sessions.desk new.engine.sessions.desk
  pub lines : new.engine.lines ≡ record (old.engine.lines) { accepted = new.engine.lines.accepted }
  pub listed : new.engine.lines.accepted.items ≡ listed_behind answer (length old.engine.sessions.desk.board.connections) old.engine.lines.accepted.items
  pub counted : new.engine.accepted ≡ accepted_after answer old.engine.accepted
  pub rest : new.engine ≡ record (old.engine) { sessions = record (old.engine.sessions) { desk = new.engine.sessions.desk }; lines = new.engine.lines; accepted = new.engine.accepted }

abbrev pub AcceptsNext : Accepted → AtWire → AtWire → Type 0
AcceptsNext answer old new = AsksForConnection answer old new ⊎ ((old.engine.accepted ≡ old.engine.connections) × ((answer ≡ Nothing) × (new ≡ old)))

-- A session dials, where that is due: only then the wire is asked.
pub record DialsSession (s : ℕ) (old new : AtWire) : Type 0 where
  pub answer : Option Dialled
  pub answers : IfSome answer (λ dialled. TheWireDials old.door new.door new.links dialled)
  pub planned : IfSome answer (λ dialled. DialsAsPlanned old.door new.door old.links new.links dialled)
  pub unasked : IfNone answer ((new.door ≡ old.door) × (new.links ≡ old.links))
  pub others : OthersStay old.links new.links (FIRST_DIALLED + old.door.dialled)
  pub dials : DialsAs answer s old.engine.moment (until_of old.engine) old.engine.sessions.desk new.engine.sessions.desk old.engine.dialler new.engine.dialler
  pub lines : new.engine.lines ≡ record (old.engine.lines) { dialled = new.engine.lines.dialled }
  pub listed : new.engine.lines.dialled.items ≡ dialled_behind answer (length old.engine.sessions.desk.board.connections) old.engine.lines.dialled.items
  pub rest : new.engine ≡ record (old.engine) { sessions = record (old.engine.sessions) { desk = new.engine.sessions.desk }; lines = new.engine.lines; dialler = new.engine.dialler }

-- a session is gathered, and hears the clock
pub record TicksSession (s : ℕ) (old new : Engine) : Type 0 where
  pub end : Option Cause
  pub ticks : Ticks s old.moment (until_of old) old.sessions.desk new.sessions.desk end
  pub rest : new ≡ record old { sessions = record (old.sessions) { desk = new.sessions.desk } }

-- an engine, what the wire tells of the connections, and what it answered so far
pub record Reading : Type 0 where
  pub engine : Engine
  pub links : ℕ → Link
  pub got : List (ℕ × WireGot)

abbrev pub reading_of : Engine → (ℕ → Link) → List (ℕ × WireGot) → Reading
reading_of engine links got = record { engine = engine; links = links; got = got }

-- what the wire does as it answers a read of a connection: other ones stay as they are
pub record AnswersRead (number : ℕ) (answer : WireGot) (buffer : List ℕ) (old new : ℕ → Link) : Type 0 where
  pub content : WireGivesFrom (old number).left answer buffer (new number).left
  pub planned : ReadsAsPlanned (old number) MOST_READ answer (new number)
  pub cause : ReadHasCause (old number) (new number) answer
  pub goes_on : LinkGoesOn (old number) (new number)
  pub others : OthersStay old new number

-- A connection that stands is read once.
pub record ReadsOne (k : ℕ) (old new : Reading) : Type 0 where
  pub answer : WireGot
  pub stands : (connection_at old.engine.sessions.desk.board k).cause ≡ None
  pub answers : AnswersRead (connection_at old.engine.sessions.desk.board k).number answer new.engine.lines.buffer.items old.links new.links
  pub reads : Reads answer old.engine.lines.routes k new.engine.lines.buffer.items old.engine.moment (until_of old.engine)
      (sessions_of old.engine.sessions.desk old.engine.lines.unkept.items) (sessions_of new.engine.sessions.desk new.engine.lines.unkept.items)
  pub told : new.got ≡ old.got ++ ((connection_at old.engine.sessions.desk.board k).number, answer) ∷ []
  pub lines : new.engine.lines ≡ record (old.engine.lines) { unkept = new.engine.lines.unkept; buffer = new.engine.lines.buffer }
  pub rest : new.engine ≡ record (old.engine) { sessions = record (old.engine.sessions) { desk = new.engine.sessions.desk }; lines = new.engine.lines }

-- and one that has ended isn't
abbrev pub ReadsIfStands : ℕ → Reading → Reading → Type 0
ReadsIfStands k old new = ReadsOne k old new ⊎ (((connection_at old.engine.sessions.desk.board k).cause ≡ None → ⊥) × (new ≡ old))

-- the connections at these places are read, each if it stands then, in this order
abbrev pub ReadsAll : List ℕ → Reading → Reading → Type 0
ReadsAll places old new = InTurn (λ i. ReadsIfStands (slice_index_or places i 0)) (length places) old new

-- an engine, and what became of the libraries' commands so far
pub record Serving : Type 0 where
  pub engine : Engine
  pub turns : List LibTurn

abbrev pub serving_of : Engine → List LibTurn → Serving
serving_of engine turns = record { engine = engine; turns = turns }

-- a library is served
pub record ServesOne (library : ℕ) (old new : Serving) : Type 0 where
  pub turn : LibTurn
  pub serves : Serves library old.engine.moment (until_of old.engine) old.engine.sessions new.engine.sessions turn
  pub told : new.turns ≡ old.turns ++ turn ∷ []
  pub rest : new.engine ≡ record (old.engine) { sessions = new.engine.sessions }

-- what came of a session's entries is noted
abbrev pub NotesSession : ℕ → Engine → Engine → Type 0
NotesSession s old new = (new.lines.unkept.items ≡ noted s old.sessions.desk.board old.lines.unkept.items) × (new ≡ record old { lines = record (old.lines) { unkept = new.lines.unkept } })

-- The first half of a turn: at most one connection is accepted, each session dials where that is due, each connection that stands is read, each session hears the
-- clock, each library is served, and what came of each session's entries is noted.
pub record TakesTurn (reading : ℕ) (old new : AtWire) (taken : Taken) : Type 0 where
  pub accepted : AtWire
  pub dialled : AtWire
  pub read : Engine
  pub ticked : Engine
  pub served : Engine
  pub moment : taken.moment ≡ (with_moment reading old.engine).moment
  pub accepts : AcceptsNext taken.accepted (at_wire (with_moment reading old.engine) old.door old.links) accepted
  pub dials : InTurn DialsSession (length accepted.engine.sessions.desk.board.sessions) accepted dialled
  pub door : new.door ≡ dialled.door
  pub reads : ReadsAll (open_places dialled.engine.lines) (reading_of dialled.engine dialled.links []) (reading_of read new.links taken.reads)
  pub ticks : InTurn TicksSession (length read.sessions.desk.board.sessions) read ticked
  pub serves : InTurn (λ i. ServesOne (i + 1)) (length ticked.sessions.ends.items) (serving_of ticked []) (serving_of served taken.libs)
  pub notes : InTurn NotesSession (length served.sessions.desk.board.sessions) served new.engine

-- the length of a session's inbound log is published
pub record PublishesSession (s : ℕ) (old new : Engine) : Type 0 where
  pub board : new.sessions.desk.board ≡ old.sessions.desk.board
  pub seat : new.sessions.desk.seat ≡ with_engine_at old.sessions.desk.seat s (after_publish (engine_at old.sessions.desk.seat s) (length (book_at old.sessions.desk.board s).inbound))
  pub rest : new ≡ record old { sessions = record (old.sessions) { desk = new.sessions.desk } }

-- Each connection that isn't closed is written to, and is closed if it has ended: it is listed no longer, and the session that dialled it waits.
pub record WritesAll (links_old links_new : ℕ → Link) (old new : Engine) (bytes : ℕ) : Type 0 where
  pub writes : WritesInTurn (open_places old.lines) (length (open_places old.lines))
      (written_so_far old.sessions.desk old.lines.unkept.items links_old 0) (written_so_far new.sessions.desk old.lines.unkept.items links_new bytes)
  pub waits : WaitBehindEnded new.sessions.desk.board old.lines.dialled.items old.moment old.dialler new.dialler
  pub accepted : new.lines.accepted.items ≡ standing new.sessions.desk.board old.lines.accepted.items
  pub dialled : new.lines.dialled.items ≡ standing new.sessions.desk.board old.lines.dialled.items
  pub lines : new.lines ≡ record (old.lines) { accepted = new.lines.accepted; dialled = new.lines.dialled }
  pub rest : new ≡ record old { sessions = record (old.sessions) { desk = new.sessions.desk }; lines = new.lines; dialler = new.dialler }

-- what is published and written in a turn
pub record GivesAll (links_old links_new : ℕ → Link) (old new : Engine) (bytes : ℕ) : Type 0 where
  pub published : Engine
  pub publishes : InTurn PublishesSession (length old.sessions.desk.board.sessions) old published
  pub writes : WritesAll links_old links_new published new bytes

-- The second half of a turn: the length of each session's inbound log is published, and each connection that isn't closed is written to.
pub record GivesTurn (old new : AtWire) (taken : Taken) (turn : Turn) : Type 0 where
  pub gives : GivesAll old.links new.links old.engine new.engine turn.written
  pub door : new.door ≡ old.door
  pub moment : turn.moment ≡ taken.moment
  pub accepted : turn.accepted ≡ taken.accepted
  pub reads : turn.reads ≡ taken.reads
  pub libs : turn.libs ≡ taken.libs

-- A turn: what it took and what it gave.
pub record MakesTurn (reading : ℕ) (old new : AtWire) (turn : Turn) : Type 0 where
  pub taken : Taken
  pub middle : AtWire
  pub takes : TakesTurn reading old middle taken
  pub gives : GivesTurn middle new taken turn

-- The records of the new entries of each session are handed out: all of them are noted before.
pub record HandsOut (old new : Engine) (records : List Record) : Type 0 where
  pub noted : Engine
  pub notes : InTurn NotesSession (length old.sessions.desk.board.sessions) old noted
  pub records_are : records ≡ fresh_records noted.sessions.desk.board noted.lines.unkept.items (length noted.sessions.desk.board.sessions)
  pub handed : AreHandedOut noted.sessions.desk.board (length noted.sessions.desk.board.sessions) noted.lines.unkept.items new.lines.unkept.items
  pub rest : new ≡ record noted { lines = record (noted.lines) { unkept = new.lines.unkept } }
