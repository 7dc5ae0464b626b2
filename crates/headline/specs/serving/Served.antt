-- What a script that is served leaves.
use Rattle.std.specs.Prelude.{◌≡◌, ℕ, ◌<◌, List, length, slice_get, Some}
use Rattle.engine_config.specs.Config.{names_of}
use Rattle.engine_config.specs.declared.config.Config.{Config}
use Rattle.engine_loop.specs.declared.engine.Engine.{Engine}
use Rattle.gate_io.specs.Wire.{Link}
use Rattle.lease_words.specs.Views.{LibraryView}
use Rattle.headline.specs.runs.Accounted.{LeavesAccounted, first_machines, no_entries}
use Rattle.headline.specs.runs.Lives.{Life}
use Rattle.headline.specs.runs.Reports.{IsReported}
use Rattle.run_report.specs.declared.records.LibReport.{LibReport}
use Rattle.run_report.specs.declared.records.RunRecord.{RunRecord}
use Rattle.script_text.specs.declared.steps.Script.{Script}
use Rattle.serve_run.specs.declared.workers.Worker.{Worker}
use Rattle.switchboard.specs.Board.{Board, book_at}

-- whatever was read of the clock
abbrev pub AnyReadings : List ℕ → Type 0
AnyReadings readings = Unit {0}

-- a library that is served, with the calls that it reports
abbrev pub life_of : Worker → Life
life_of worker = record { number = worker.number; library = worker.library; calls = worker.report.calls }

-- the sessions are those that are configured, by their names, how many leases each can give, and whether it dials
pub record AreSessionsOf (config : Config) (board : Board) : Type 0 where
  pub count : length board.sessions ≡ length config.names
  pub names : (s : ℕ) → s < length config.names → (book_at board s).machine.names ≡ names_of config s
  pub leases : (s : ℕ) → s < length config.names → (book_at board s).leases ≡ config.leases
  pub dials : (s : ℕ) → s < length config.names → (book_at board s).machine.dials ≡ (first_machines config s).dials

-- An engine has met the libraries: its seat and its ends of the rings know of them, and the rest is as it was.
abbrev pub HasMet : Engine → Engine → Type 0
HasMet last met = met ≡ record last { sessions = record (last.sessions) { desk = record (last.sessions.desk) { seat = met.sessions.desk.seat }; ends = met.sessions.ends } }

-- What a script that is served leaves is accounted for. Behind its last turn the engine met the libraries; then engine and libraries, whose seats and reports
-- these are, left the record, which has the configured sessions and libraries; and each report is what its library did, and is borne out.
pub record IsServedRecord (script : Script) (links : ℕ → Link) (last : Engine) (left : RunRecord) : Type 0 where
  pub engine : Engine
  pub has_met : HasMet last engine
  pub seats : List LibraryView
  pub reports : List LibReport
  pub leaves : LeavesAccounted no_entries (first_machines script.config) engine links seats reports left
  pub sessions : AreSessionsOf script.config leaves.gathered.board
  pub libraries : length left.libraries ≡ script.config.libraries
  pub reported : (place : ℕ) (report : LibReport) → slice_get left.libraries place ≡ Some report → IsReported script.config.asks no_entries leaves.gathered.board engine.sessions place report
