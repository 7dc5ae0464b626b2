-- The engine and the libraries meet, once, behind their work.
use Rattle.std.specs.Prelude.{◌≡◌, ℕ, List, length, slice_get, slice_set, Some}
use Rattle.std.specs.List.{All}
use Rattle.engine_loop.specs.Meeting.{RingsMeet, SeatsMeet}
use Rattle.engine_loop.specs.declared.engine.Engine.{Engine}
use Rattle.lease_desk.specs.Desk.{InTurn}
use Rattle.library_desk.specs.declared.shared.Shared.{Shared}
use Rattle.serve_run.specs.Workers.{IsWorker}
use Rattle.serve_run.specs.declared.workers.Worker.{Worker}

-- The engine and a library meet: at the table, and at both its rings.
pub record MeetsWorker (engine_old engine_new : Engine) (old new : Worker) : Type 0 where
  pub seats : SeatsMeet engine_old.sessions.desk.seat engine_new.sessions.desk.seat old.library.ends.seat new.library.ends.seat
  pub rings : RingsMeet old.number engine_old.sessions engine_new.sessions old.library.ends.tail new.library.ends.tail old.library.ends.head new.library.ends.head
  pub engine : engine_new ≡ record engine_old { sessions = record (engine_old.sessions) { desk = record (engine_old.sessions.desk) { seat = engine_new.sessions.desk.seat }; ends = engine_new.sessions.ends } }
  pub worker : new ≡ record old { library = record (old.library) { ends = new.library.ends } }

-- the engine and the libraries
pub record Meeting : Type 0 where
  pub engine : Engine
  pub workers : List Worker

abbrev pub meeting_of : Engine → List Worker → Meeting
meeting_of engine workers = record { engine = engine; workers = workers }

-- the engine and the library at a place meet
pub record MeetsAt (place : ℕ) (old new : Meeting) : Type 0 where
  pub before : Worker
  pub after : Worker
  pub found : slice_get old.workers place ≡ Some before
  pub meets : MeetsWorker old.engine new.engine before after
  pub workers : new.workers ≡ slice_set old.workers place after

-- Each library meets the engine, in the order of their numbers.
abbrev pub MeetAll : Meeting → Meeting → Type 0
MeetAll old new = InTurn MeetsAt (length old.workers) old new

-- each is at its table and rings
abbrev pub AreWorkers : Shared → List Worker → Type 0
AreWorkers shared workers = All (IsWorker shared) workers
