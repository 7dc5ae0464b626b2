-- A script that is served and for which memory is wanting.
use Rattle.std.specs.Prelude.{◌≡◌, ◌⊎◌, ℕ, ◌<◌, Bool, List, [], map, min}
use Rattle.engine_loop.specs.Stops.{StopsTurn}
use Rattle.engine_loop.specs.Turns.{AtWire, at_wire}
use Rattle.engine_loop.specs.declared.engine.Engine.{Engine}
use Rattle.gate_io.specs.Wire.{Door, Link}
use Rattle.gate_io.specs.declared.clocks.TheConstants.{LAST_MOMENT}
use Rattle.library_desk.specs.declared.shared.Shared.{Shared}
use Rattle.run_report.specs.declared.records.RunRecord.{RunRecord}
use Rattle.engine_loop.specs.Starts.{StartsEngineOf}
use Rattle.engine_loop.specs.Leaving.{LeavesAsItStood}
use Rattle.script_text.specs.declared.steps.Script.{Script}
use Rattle.serve_run.specs.Drives.{Drive, DrivesFor, DrivesToEnd, drive_of}
use Rattle.serve_run.specs.Meetings.{MeetAll, Meeting, meeting_of}
use Rattle.serve_run.specs.Serves.{connections_of}
use Rattle.serve_run.specs.Workers.{AllWork, StartsWorkers, report_of, seat_of}
use Rattle.serve_run.specs.declared.workers.Worker.{Worker}

-- The engine makes so many turns, and the next one stops.
pub record DrivesInPart (connections libraries most : ℕ) (old : AtWire) (new : Engine) : Type 0 where
  pub count : ℕ
  pub few : count < most
  pub between : Drive
  pub drives : DrivesFor connections libraries count (drive_of old [] []) between
  pub reading : ℕ
  pub stops : StopsTurn reading between.at new

-- The engine made its turns to the end, whatever it read of the clock, over a wire that then told this.
pub record DrivesToAnEnd (connections libraries most : ℕ) (old : AtWire) (new : Engine) : Type 0 where
  pub over : Bool
  pub door : Door
  pub links : ℕ → Link
  pub drives : DrivesToEnd connections libraries most over (λ readings. Unit {0}) old (at_wire new door links)

-- what engine and libraries leave for want of memory, whether they met or not
pub record LeavesInPart (engine : Engine) (workers : List Worker) (left : RunRecord) : Type 0 where
  pub met : Meeting
  pub meets : (met ≡ meeting_of engine workers) ⊎ MeetAll (meeting_of engine workers) met
  pub leaves : LeavesAsItStood (map seat_of met.workers) met.engine left.engine
  pub libraries : left.libraries ≡ map report_of met.workers

-- Engine and libraries ran: the engine made its turns up to the end, or up to one that stopped; and each library carried out its plan, gave it up, or wanted memory at a
-- line.
pub record RunsInPart (script : Script) (turns : ℕ) (wide : Bool) (old : Door) (old_links : ℕ → Link) (shared : Shared) (first : Engine) (left : RunRecord) : Type 0 where
  pub last : Engine
  pub begun : List Worker
  pub worked : List Worker
  pub libraries : StartsWorkers script.config.asks script.config.libraries shared script.steps begun
  pub drives : DrivesToAnEnd (connections_of script.config) script.config.libraries turns (at_wire first old old_links) last
      ⊎ DrivesInPart (connections_of script.config) script.config.libraries turns (at_wire first old old_links) last
  pub works : AllWork wide turns begun worked
  pub leaves : LeavesInPart last worked left

-- The record is what is left where a script was begun to be served, and memory was wanting later: the engine began as it is configured; and the libraries had no memory to
-- begin, or all ran.
pub record ServesInPart (script : Script) (turns : ℕ) (wide : Bool) (old : Door) (old_links : ℕ → Link) (left : RunRecord) : Type 0 where
  pub shared : Shared
  pub reading : ℕ
  pub first : Engine
  pub starts : StartsEngineOf script.config (min reading LAST_MOMENT) shared first
  pub runs : LeavesInPart first [] left ⊎ RunsInPart script turns wide old old_links shared first left
