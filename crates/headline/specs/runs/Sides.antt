-- How a run goes on: its sessions and connections, and the engine's ends of the libraries' rings.
use Rattle.std.specs.Prelude.{◌≡◌, ℕ, List, ◌++◌, length, slice_get, Some}
use Rattle.library_desk.specs.declared.desk.LibraryDesk.{LibraryDesk}
use Rattle.library_desk.specs.declared.ends.EngineEnds.{EngineEnds}
use Rattle.script_run.specs.declared.run.Run.{Run}
use Rattle.switchboard.specs.Going.{GoesOnTo}

-- a list begins another one
pub record Begins {T : Type 0} (first all : List T) : Type 0 where
  pub rest : List T
  pub is : first ++ rest ≡ all

-- at a place are ends of a library to which more was pushed, and from which more was popped
pub record EndsGoOn (new : List EngineEnds) (place : ℕ) (old : EngineEnds) : Type 0 where
  pub ends : EngineEnds
  pub found : slice_get new place ≡ Some ends
  pub pushed : Begins old.tail.pushed ends.tail.pushed
  pub popped : Begins old.head.popped ends.head.popped

-- Nothing that was pushed to a library or popped from it is lost, and the engine's seat stays at its table.
pub record SidesGoOn (old new : LibraryDesk) : Type 0 where
  pub table : new.desk.seat.table ≡ old.desk.seat.table
  pub count : length new.ends.items ≡ length old.ends.items
  pub each : (place : ℕ) (ends : EngineEnds) → slice_get old.ends.items place ≡ Some ends → EndsGoOn new.ends.items place ends

-- So do the sessions and connections.
pub record DeskGoesOn (old new : LibraryDesk) : Type 0 where
  pub board : GoesOnTo old.desk.board new.desk.board
  pub sides : SidesGoOn old new

-- A run goes on with as many libraries.
pub record RunGoesOn (old new : Run) : Type 0 where
  pub engine : DeskGoesOn old.engine.sessions new.engine.sessions
  pub libraries : length new.callers.items ≡ length old.callers.items
