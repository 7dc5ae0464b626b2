-- Where a turn stops for want of memory: its steps are made up to one, and of that a beginning.
use Rattle.std.specs.Prelude.{◌≡◌, ℕ, ◌+◌, ◌<◌, ◌⊎◌, true, List, [], length, slice_index_or}
use Rattle.engine_loop.specs.Engines.{until_of}
use Rattle.engine_loop.specs.Turns.{AcceptsNext, AtWire, DialsSession, PublishesSession, Reading, ReadsAll, ReadsIfStands, ServesOne, Serving, TakesTurn, TicksSession, at_wire, reading_of, serving_of, with_moment}
use Rattle.engine_loop.specs.declared.engine.Engine.{Engine}
use Rattle.engine_loop.specs.declared.records.Taken.{Taken}
use Rattle.gate_io.specs.Wire.{Link}
use Rattle.gate_io.specs.declared.wires.Accepted.{Accepted}
use Rattle.gate_io.specs.declared.wires.WireGot.{WireGot}
use Rattle.lease_desk.specs.Desk.{InTurn}
use Rattle.library_desk.specs.Serving.{Serves}
use Rattle.library_desk.specs.Stops.{StopsServing}
use Rattle.library_desk.specs.declared.desk.LibraryDesk.{LibraryDesk}
use Rattle.library_desk.specs.declared.serving.LibTurn.{LibTurn}
use Rattle.session_desk.specs.Stops.{StopsTicking}
use Rattle.switchboard.specs.Board.{connection_at}
use Rattle.switchboard.specs.Stops.{NothingIsTold}
use Rattle.wire_desk.specs.Places.{open_places}
use Rattle.wire_desk.specs.Steps.{sessions_of, written_so_far}
use Rattle.wire_desk.specs.Stops.{StopsCalling, StopsReading, StopsWriting}

-- nothing is told of what becomes of an engine
abbrev pub TellsNothing : Engine → Engine → Type 0
TellsNothing old new = NothingIsTold old.sessions.desk.board new.sessions.desk.board

-- each library was served, and nothing more is told
pub record StopsBehindServing (served : Engine) (turns : List LibTurn) (old new : Engine) : Type 0 where
  pub serves : InTurn (λ i. ServesOne (i + 1)) (length old.sessions.ends.items) (serving_of old []) (serving_of served turns)
  pub stops : TellsNothing served new

-- So many libraries are served, and the next one isn't, or not to the end.
pub record StopsServingAll (old new : Engine) : Type 0 where
  pub count : ℕ
  pub between : Serving
  pub serves : InTurn (λ i. ServesOne (i + 1)) count (serving_of old []) between
  pub stops : TellsNothing between.engine new ⊎ StopsServing (count + 1) between.engine.moment (until_of between.engine) between.engine.sessions new.sessions

-- Each session heard the clock, and not all libraries are served, or what came isn't noted.
abbrev pub StopsBehindTicks : Engine → Engine → Type 0
StopsBehindTicks old new = StopsServingAll old new ⊎ ((served : Engine) × ((turns : List LibTurn) × StopsBehindServing served turns old new))

-- So many sessions hear the clock, and the next one doesn't, or not all that is due is done.
pub record StopsTickingAll (old new : Engine) : Type 0 where
  pub count : ℕ
  pub between : Engine
  pub ticks : InTurn TicksSession count old between
  pub stops : StopsTicking count between.moment (until_of between) between.sessions.desk new.sessions.desk

pub record StopsServingBehind (old new : Engine) : Type 0 where
  pub ticked : Engine
  pub ticks : InTurn TicksSession (length old.sessions.desk.board.sessions) old ticked
  pub stops : StopsBehindTicks ticked new

abbrev pub StopsBehindReads : Engine → Engine → Type 0
StopsBehindReads old new = StopsTickingAll old new ⊎ StopsServingBehind old new

-- So many of the connections that aren't closed are read, and the next one isn't, or what it brings isn't all handled.
pub record StopsReadingAll (old : Engine) (links : ℕ → Link) (new : Engine) : Type 0 where
  pub count : ℕ
  pub between : Reading
  pub reads : InTurn (λ i. ReadsIfStands (slice_index_or (open_places old.lines) i 0)) count (reading_of old links []) between
  pub stops : TellsNothing between.engine new
      ⊎ StopsReading between.engine.lines.routes (slice_index_or (open_places old.lines) count 0) between.engine.moment (until_of between.engine)
      (sessions_of between.engine.sessions.desk between.engine.lines.unkept.items) new.sessions.desk

pub record StopsTickingBehind (old : Engine) (links : ℕ → Link) (new : Engine) : Type 0 where
  pub read : Engine
  pub links_read : ℕ → Link
  pub got : List (ℕ × WireGot)
  pub reads : ReadsAll (open_places old.lines) (reading_of old links []) (reading_of read links_read got)
  pub stops : StopsBehindReads read new

abbrev pub StopsBehindDials : AtWire → Engine → Type 0
StopsBehindDials old new = StopsReadingAll old.engine old.links new ⊎ StopsTickingBehind old.engine old.links new

-- So many sessions dial that are due, and the next one doesn't, or isn't bound.
pub record StopsCallingAll (old : AtWire) (new : Engine) : Type 0 where
  pub count : ℕ
  pub between : AtWire
  pub dials : InTurn DialsSession count old between
  pub stops : StopsCalling between.door.dialled count between.engine.moment (until_of between.engine) between.engine.sessions.desk new.sessions.desk

pub record StopsReadingBehind (old : AtWire) (new : Engine) : Type 0 where
  pub dialled : AtWire
  pub dials : InTurn DialsSession (length old.engine.sessions.desk.board.sessions) old dialled
  pub stops : StopsBehindDials dialled new

-- A connection is accepted, or none is, and what follows in the first half of a turn isn't all done.
pub record StopsBehindAccepting (old : AtWire) (new : Engine) : Type 0 where
  pub answer : Accepted
  pub accepted : AtWire
  pub accepts : AcceptsNext answer old accepted
  pub stops : StopsCallingAll accepted new ⊎ StopsReadingBehind accepted new

-- The first half of a turn stops.
abbrev pub StopsTaking : ℕ → AtWire → Engine → Type 0
StopsTaking reading old new =
    TellsNothing old.engine new ⊎ StopsBehindAccepting (at_wire (with_moment reading old.engine) old.door old.links) new

-- The second half stops: what came is published, and not all connections are written to.
pub record StopsGiving (old : AtWire) (new : Engine) : Type 0 where
  pub published : Engine
  pub publishes : InTurn PublishesSession (length old.engine.sessions.desk.board.sessions) old.engine published
  pub stops : StopsWriting (open_places published.lines) (written_so_far published.sessions.desk published.lines.unkept.items old.links 0) new.sessions.desk

pub record StopsBehindTaking (reading : ℕ) (old : AtWire) (new : Engine) : Type 0 where
  pub taken : Taken
  pub middle : AtWire
  pub takes : TakesTurn reading old middle taken
  pub stops : StopsGiving middle new

-- A turn stops, and the engine makes no other one.
pub record StopsTurn (reading : ℕ) (old : AtWire) (new : Engine) : Type 0 where
  pub failed : new.failed ≡ true
  pub stops : StopsTaking reading old new ⊎ StopsBehindTaking reading old new
