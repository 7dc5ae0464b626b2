-- A run that stops for want of memory, and what it leaves.
use Rattle.std.specs.Prelude.{◌≡◌, ◌⊎◌, ℕ, ◌<◌, false, List, length, map}
use Rattle.engine_loop.specs.Leaving.{LeavesAsItStood}
use Rattle.engine_loop.specs.Stops.{StopsTurn}
use Rattle.engine_loop.specs.Turns.{at_wire}
use Rattle.engine_loop.specs.declared.engine.Engine.{Engine}
use Rattle.gate_io.specs.MemWire.{door_of, link_at}
use Rattle.library_desk.specs.declared.shared.Shared.{Shared}
use Rattle.run_report.specs.declared.records.RunRecord.{RunRecord}
use Rattle.script_run.specs.Means.{StartsRun, first_moment, report_of, seat_of}
use Rattle.script_run.specs.Runs.{CarriesOut, with_room}
use Rattle.script_run.specs.declared.run.Run.{Run}
use Rattle.script_text.specs.declared.steps.Script.{Script}
use Rattle.script_text.specs.declared.steps.Step.{Step}

-- What a run leaves for which memory was wanting: its engine as it stood, and its libraries, each with the calls that it made.
pub record LeavesInPart (run : Run) (left : RunRecord) : Type 0 where
  pub engine : LeavesAsItStood (map seat_of run.callers.items) run.engine left.engine
  pub libraries : left.libraries ≡ map report_of run.callers.items

-- nothing comes to sessions and connections, nor does the engine's moment change
pub record KeepsBoard (old new : Engine) : Type 0 where
  pub stands : new.failed ≡ false
  pub board : new.sessions.desk.board ≡ old.sessions.desk.board
  pub moment : new.moment ≡ old.moment

-- A step for which memory is wanting: the engine's turn stops in its midst, and no other step comes to sessions and connections.
abbrev pub StopsInStep : Run → Run → Type 0
StopsInStep old new =
    KeepsBoard old.engine new.engine ⊎ ((reading : ℕ) × StopsTurn reading (at_wire old.engine (door_of (with_room old).wire) (link_at (with_room old).wire)) new.engine)

-- So many steps are carried out, and memory is wanting in the next one. No library comes or goes.
pub record StopsAlong (steps : List Step) (first new : Run) : Type 0 where
  pub count : ℕ
  pub few : count < length steps
  pub between : Run
  pub carries : CarriesOut steps count first between
  pub stops : StopsInStep between new
  pub libraries : length new.callers.items ≡ length between.callers.items

-- Memory was wanting in a step, or as the run left its record.
pub record LeadsInPart (steps : List Step) (first : Run) (left : RunRecord) : Type 0 where
  pub last : Run
  pub carries : CarriesOut steps (length steps) first last ⊎ StopsAlong steps first last
  pub leaves : LeavesInPart last left

-- The record is what a script leaves whose run began and for which memory was wanting later: so many of its steps were carried out, and of one a beginning.
pub record MeansInPart (script : Script) (left : RunRecord) : Type 0 where
  pub shared : Shared
  pub first : Run
  pub starts : StartsRun script.config (first_moment script.steps) shared first
  pub leads : LeadsInPart script.steps first left
