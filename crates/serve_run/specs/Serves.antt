-- A script that is served: what engine and libraries did, side by side, and what that leaves.
use Rattle.std.specs.Prelude.{◌≡◌, ℕ, ◌+◌, ◌≤◌, min, Bool, true, false, if◌then◌else◌, List, [], ◌∷◌, length, map, Option, Some, None}
use Rattle.std.specs.List.{All}
use Rattle.engine_config.specs.declared.config.Config.{Config}
use Rattle.engine_loop.specs.Finishing.{Finishes}
use Rattle.engine_loop.specs.Engines.{until_of}
use Rattle.engine_loop.specs.Turns.{AtWire, at_wire}
use Rattle.engine_loop.specs.declared.engine.Engine.{Engine}
use Rattle.gate_io.specs.Wire.{Door, Link}
use Rattle.gate_io.specs.declared.clocks.TheConstants.{LAST_MOMENT}
use Rattle.library_desk.specs.declared.shared.Shared.{Shared}
use Rattle.run_report.specs.declared.records.LibReport.{LibReport}
use Rattle.run_report.specs.declared.records.RunRecord.{RunRecord}
use Rattle.engine_loop.specs.Starts.{StartsEngineOf}
use Rattle.script_text.specs.declared.steps.Script.{Script}
use Rattle.serve_run.specs.Drives.{DrivesToEnd}
use Rattle.serve_run.specs.Meetings.{MeetAll, Meeting, meeting_of}
use Rattle.serve_run.specs.Workers.{AllWork, StartsWorkers, report_of, seat_of}
use Rattle.serve_run.specs.declared.workers.Worker.{Worker}

-- What a run leaves: the engine takes the libraries' seats in and gathers each session once more, and each library has its report.
pub record LeavesRecord (engine : Engine) (workers : List Worker) (left : RunRecord) : Type 0 where
  pub finishes : Finishes (map seat_of workers) engine.lines.unkept.items engine.accepted engine.moment (until_of engine) engine.sessions left.engine
  pub libraries : left.libraries ≡ map report_of workers

-- the first library that didn't carry out its plan
abbrev pub first_unfinished : List LibReport → Option ℕ
first_unfinished [] = None
first_unfinished (report ∷ reports) = if report.finished then first_unfinished reports else Some report.number

-- Whose turns were spent: the engine's, 0, where the run wasn't over, or else those of the first library that gave its plan up.
abbrev pub spent_by : Bool → List LibReport → Option ℕ
spent_by true reports = first_unfinished reports
spent_by false reports = Some 0

-- how many connections a run takes, accepted and dialled ones together
abbrev pub connections_of : Config → ℕ
connections_of config = config.connections + config.dials

-- A run is concluded of which the engine and each library have ended, and none wanted memory: they meet, and that leaves the record.
pub record Concludes (over : Bool) (last : Engine) (worked : List Worker) (left : RunRecord) (spent : Option ℕ) : Type 0 where
  pub whole : All (λ worker. worker.short ≡ false) worked
  pub met : Meeting
  pub meets : MeetAll (meeting_of last worked) met
  pub leaves : LeavesRecord met.engine met.workers left
  pub spent_is : spent ≡ spent_by over left.libraries

-- A script is served. The engine begins as it is configured, at the moment that the clock told first, and the libraries with their lines; the engine makes its
-- turns, and each library carries out its plan or gives it up, each beside the others; then the run is concluded.
pub record Serves (script : Script) (turns : ℕ) (wide : Bool) (Read : List ℕ → Type 0) (old new : Door) (old_links new_links : ℕ → Link) (left : RunRecord) (spent : Option ℕ) : Type 0 where
  pub shared : Shared
  pub reading : ℕ
  pub first : Engine
  pub last : Engine
  pub begun : List Worker
  pub worked : List Worker
  pub over : Bool
  pub starts : StartsEngineOf script.config (min reading LAST_MOMENT) shared first
  pub libraries : StartsWorkers script.config.asks script.config.libraries shared script.steps begun
  pub drives : DrivesToEnd (connections_of script.config) script.config.libraries turns over (λ readings. Read (reading ∷ readings)) (at_wire first old old_links) (at_wire last new new_links)
  pub works : AllWork wide turns begun worked
  pub concludes : Concludes over last worked left spent
