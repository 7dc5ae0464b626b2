-- What a script leaves.
use Rattle.std.specs.Prelude.{◌≡◌, ℕ, ◌<◌, List, length, slice_get, Some}
use Rattle.std.specs.List.{All}
use Rattle.engine_config.specs.Config.{names_of}
use Rattle.engine_config.specs.declared.config.Config.{Config}
use Rattle.lease_core.specs.declared.entry.Entry.{Entry}
use Rattle.library_api.specs.Replies.{IsRepliedTo}
use Rattle.headline.specs.runs.Accounted.{IsAccountedRun, RunLeavesAccounted, first_machines, no_entries}
use Rattle.headline.specs.runs.Lives.{HaveLived, life_of}
use Rattle.script_run.specs.declared.callers.Caller.{Caller}
use Rattle.script_run.specs.declared.run.Run.{Run}
use Rattle.headline.specs.runs.Reports.{IsBorneOut, IsRepliedAtEnd}
use Rattle.run_report.specs.declared.records.RunRecord.{RunRecord}
use Rattle.script_text.specs.declared.steps.Script.{Script}
use Rattle.switchboard.specs.Board.{Board, book_at}

-- Each library was replied to. All its requests were and none is open, or all but the last, which is open.
abbrev pub AllAreReplied : (ℕ → List Entry) → Board → Run → Type 0
AllAreReplied before board run =
    (place : ℕ) (caller : Caller) → slice_get run.callers.items place ≡ Some caller → IsRepliedAtEnd before board (life_of caller) × IsRepliedTo caller.library

-- the sessions are those that are configured, by their names
pub record AreSessionsOf (config : Config) (board : Board) : Type 0 where
  pub count : length board.sessions ≡ length config.names
  pub names : (s : ℕ) → s < length config.names → (book_at board s).machine.names ≡ names_of config s

-- What a script leaves is accounted for. There is a last run, accounted for from the configured sessions on, which had no entry, whose libraries have lived; that left
-- the record, which has the configured sessions and libraries, and bears out what its reports of the libraries say.
pub record IsAccountedRecord (script : Script) (left : RunRecord) : Type 0 where
  pub last : Run
  pub run : IsAccountedRun no_entries (first_machines script.config) last
  pub lived : HaveLived script.config.asks last
  pub leaves : RunLeavesAccounted no_entries (first_machines script.config) last left
  pub sessions : AreSessionsOf script.config leaves.gathered.board
  pub libraries : length last.callers.items ≡ script.config.libraries
  pub replied : AllAreReplied no_entries leaves.gathered.board last
  pub borne_out : All (IsBorneOut no_entries leaves.gathered.board left.engine.strays) left.libraries
