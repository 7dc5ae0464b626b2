-- What a script that is served leaves keeps time.
use Rattle.std.proofs.Common.{◌≡◌, ℕ, ◌≤◌, Bool, [], ◌∷◌, length, Option, refl, sym, ap, subst, arith}
use Rattle.std.specs.List.{All}
use Rattle.std.specs.Prelude.{min}
use Rattle.headline.proofs.clock_lemmas.Driven.{IsClockedDrive, drove_for, first_in_time, first_opened, lines_recorded, sessions_recorded, told_first}
use Rattle.headline.proofs.clock_lemmas.Libraries.{first_watched}
use Rattle.headline.proofs.clock_lemmas.Walk.{ClockLaws, IsClockedAt, IsClockedEngine, gathered_clocked}
use Rattle.headline.specs.clock.Kept.{KeepsTime, moment_at}
use Rattle.headline.specs.clock.Waited.{EndedInTime}
use Rattle.engine_laws.specs.Account.{IsAccountedFor}
use Rattle.engine_config.specs.declared.config.Config.{Config}
use Rattle.engine_loop.specs.Engines.{until_of}
use Rattle.engine_loop.specs.Turns.{AtWire, at_wire}
use Rattle.engine_loop.specs.declared.engine.Engine.{Engine}
use Rattle.gate_io.specs.Clock.{greatest_of}
use Rattle.gate_io.specs.Wire.{Door, Link}
use Rattle.gate_io.specs.declared.clocks.TheConstants.{LAST_MOMENT}
use Rattle.headline.specs.runs.Accounted.{IsAccountedAt, first_machines, no_entries}
use Rattle.run_report.specs.declared.records.RunRecord.{RunRecord}
use Rattle.script_text.specs.declared.steps.Script.{Script}
use Rattle.headline.specs.serving.Served.{AnyReadings, IsServedRecord}
use Rattle.serve_run.specs.Drives.{drive_of}
use Rattle.serve_run.specs.Serves.{Serves, connections_of}
use Rattle.session_core.specs.State.{State}

-- The laws of accounts, what the engine is as it begins, and what is left once it has met the libraries.
module _ (script : Script) (turns : ℕ) (wide : Bool) (old new : Door) (old_links new_links : ℕ → Link) (left : RunRecord) (spent : Option ℕ) (serves : Serves script turns wide AnyReadings old new old_links new_links left spent)
    (g : ClockLaws no_entries (first_machines script.config)) (account : IsAccountedAt no_entries (first_machines script.config) serves.first.moment serves.first.sessions) (is : IsServedRecord script new_links serves.last left) where
  abbrev config : Config
  config = script.config

  abbrev start : ℕ → State
  start = first_machines config

  abbrev first : ℕ
  first = min serves.reading LAST_MOMENT

  abbrev timeout : ℕ
  timeout = config.timeout

  abbrev last : ℕ
  last = moment_at (greatest_of (serves.reading ∷ serves.drives.last.readings))

  begun : IsClockedDrive no_entries start first timeout g serves.reading (drive_of (at_wire serves.first old old_links) [] [])
  begun =
      let moment = serves.starts.figures.moment in
      record {
        begun = subst (λ n. first ≤ n) (sym moment) (omega arith);
        clocked = subst (λ n. IsClockedEngine no_entries start first timeout g n serves.first) (sym moment)
            (record {
              board = record {
                ready = account.ready;
                account = subst (λ n. IsAccountedFor no_entries start n serves.first.sessions.desk.board) moment account.account;
                in_time = first_in_time start first config serves.first.sessions.desk.board serves.starts.sessions;
                opened = first_opened start first config serves.first.sessions.desk.board serves.starts.sessions;
              };
              watched = first_watched first timeout config serves.shared serves.first.sessions refl serves.starts.desk serves.starts.ends;
            });
        told = subst (λ n. n ≤ moment_at (greatest_of (serves.reading ∷ []))) (sym moment) (told_first serves.reading LAST_MOMENT);
      }

  driven : IsClockedDrive no_entries start first timeout g serves.reading serves.drives.last
  driven = drove_for no_entries start first timeout g serves.reading (connections_of config) config.libraries serves.drives.count (drive_of (at_wire serves.first old old_links) [] []) serves.drives.last serves.drives.drives begun

  last_begun : first ≤ serves.last.moment
  last_begun = subst (λ (a : AtWire). first ≤ a.engine.moment) serves.drives.at driven.begun

  last_told : serves.last.moment ≤ last
  last_told = subst (λ (a : AtWire). a.engine.moment ≤ last) serves.drives.at driven.told

  last_clocked : IsClockedEngine no_entries start first timeout g serves.last.moment serves.last
  last_clocked = subst (λ (a : AtWire). IsClockedEngine no_entries start first timeout g a.engine.moment a.engine) serves.drives.at driven.clocked

  -- meeting the libraries changes neither
  met_clocked : IsClockedAt no_entries start first timeout g is.engine.moment is.engine.sessions.desk.board
  met_clocked = subst (λ (e : Engine). IsClockedAt no_entries start first timeout g e.moment e.sessions.desk.board) (sym is.has_met) last_clocked.board

  same_moment : is.engine.moment ≡ serves.last.moment
  same_moment = ap (λ (e : Engine). e.moment) is.has_met

  gathered : IsClockedAt no_entries start first timeout g is.engine.moment is.leaves.gathered.board
  gathered = gathered_clocked no_entries start first timeout g (length is.engine.sessions.desk.board.sessions) is.engine.moment (until_of is.engine) _ is.leaves.gathered
      (subst (λ n. first ≤ n) (sym same_moment) last_begun) is.leaves.gathers met_clocked

  same_told : is.engine.moment ≤ last
  same_told = subst (λ n. n ≤ last) (sym same_moment) last_told

  pub keeps_time : KeepsTime config serves.reading serves.drives.last.readings left
  keeps_time = record {
    silent = subst (All (EndedInTime start first last)) (sym is.leaves.leaves.connections)
        (lines_recorded start first timeout is.engine.moment last same_told is.leaves.gathered.board.connections gathered.in_time.lines);
    timeouts = sessions_recorded start first timeout is.engine.moment last same_told is.leaves.gathered.board.sessions left.engine.sessions is.leaves.leaves.sessions gathered.in_time.journals;
  }
