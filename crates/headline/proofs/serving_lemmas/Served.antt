-- A script that is served, from its beginning to what it leaves.
use Rattle.std.proofs.Common.{◌≡◌, ℕ, zero, suc, ◌+◌, ◌<◌, ◌≤◌, Bool, false, List, [], ◌∷◌, get_or, length, Option, Some, refl, sym, ap, subst, ◌∙◌, arith}
use Rattle.std.proofs.lemmas.List.{length-map, length-replicate}
use Rattle.std.proofs.lemmas.List.Elements.{All-cons, All-contains, All-nil}
use Rattle.std.proofs.lemmas.Option.{same_Some, slice_get-get_or, slice_get_within}
use Rattle.std.specs.List.{All, Contains}
use Rattle.std.specs.Prelude.{map, min, replicate, slice_get, slice_index_or}
use Rattle.engine_config.specs.declared.config.Config.{Config}
use Rattle.engine_end.specs.Finishing.{Finishes}
use Rattle.engine_loop.specs.Engines.{until_of}
use Rattle.engine_loop.specs.Turns.{AtWire, at_wire}
use Rattle.engine_loop.specs.declared.engine.Engine.{Engine}
use Rattle.gate_io.specs.Wire.{Door, Link}
use Rattle.gate_io.specs.declared.clocks.TheConstants.{LAST_MOMENT}
use Rattle.lease_words.specs.Views.{EngineView, LibraryView, TableRef, library_at, no_library_session}
use Rattle.lease_words.specs.declared.view.Shape.{Shape}
use Rattle.library_api.specs.Known.{new_library}
use Rattle.library_desk.specs.declared.shared.Shared.{Shared}
use Rattle.headline.specs.runs.Accounted.{FitsTable, IsAccountedAt, LeavesAccounted, first_machines, no_entries}
use Rattle.headline.specs.runs.Lives.{AreUnused, HasLived, IsLifeAt, IsReportedAs, Life}
use Rattle.headline.specs.runs.Reports.{IsReported}
use Rattle.headline.specs.runs.Sides.{DeskGoesOn}
use Rattle.run_report.specs.declared.records.LibReport.{LibReport}
use Rattle.run_report.specs.declared.records.RunRecord.{RunRecord}
use Rattle.engine_loop.specs.Starts.{StartsEngineOf}
use Rattle.script_text.specs.declared.steps.Script.{Script}
use Rattle.headline.proofs.serving_lemmas.MetAll.{HaveMet, IsHere, MeetLaws, met_all}
use Rattle.headline.proofs.serving_lemmas.Planned.{LifeLaws, Lives, plan_run}
use Rattle.headline.specs.serving.Driven.{IsAccountedDrive}
use Rattle.headline.specs.serving.Served.{IsServedRecord, life_of}
use Rattle.serve_run.specs.Drives.{Drive, DrivesFor, drive_of}
use Rattle.serve_run.specs.Meetings.{Meeting, meeting_of}
use Rattle.serve_run.specs.Serves.{Serves, connections_of}
use Rattle.serve_run.specs.Workers.{HasRun, StartsWorker, Works, report_of, seat_of}
use Rattle.serve_run.specs.declared.workers.Worker.{Worker}
use Rattle.session_book.specs.Book.{Book}
use Rattle.session_core.specs.State.{State}
use Rattle.switchboard.specs.Board.{Board}
use Rattle.switchboard.specs.Going.{GoesOnTo}
use Rattle.engine_laws.specs.texts.Taken.{TookTheirTexts}

none_there : {X : Type 0} (n i : ℕ) (d : X) → slice_index_or (replicate n d) i d ≡ d
none_there zero i d = refl
none_there (suc n) zero d = refl
none_there (suc n) (suc i) d = none_there n i d

-- the report, and the seat, of a library
mapped_at : {A B : Type 0} (f : A → B) (xs : List A) (place : ℕ) (y : B) → slice_get (map f xs) place ≡ Some y → (x : A) × ((slice_get xs place ≡ Some x) × (f x ≡ y))
mapped_at f [] place y found = absurd cc
mapped_at f (x ∷ xs) zero y found = (x, (refl, same_Some (f x) y found))
mapped_at f (x ∷ xs) (suc place) y found = mapped_at f xs place y found

seat_there : (workers : List Worker) (place : ℕ) (worker : Worker) → slice_get workers place ≡ Some worker → Contains (map seat_of workers) (seat_of worker)
seat_there [] place worker found = absurd cc
seat_there (w ∷ workers) zero worker found = (0, omega arith, ap seat_of (same_Some w worker found))
seat_there (w ∷ workers) (suc place) worker found = (let there = seat_there workers place worker found in (suc there.0, omega arith, there.2))

seats_fit : (libraries : ℕ) (workers : List Worker) (from : ℕ) → from + length workers ≤ libraries → ((place : ℕ) (worker : Worker) → slice_get workers place ≡ Some worker → worker.library.ends.seat.knows.number ≡ from + place + 1)
    → All (FitsTable libraries) (map seat_of workers)
seats_fit libraries [] from few each = All-nil (FitsTable libraries)
seats_fit libraries (worker ∷ workers) from few each =
    let here = each 0 worker refl in
    All-cons (FitsTable libraries) (seat_of worker) (map seat_of workers) (omega arith, omega arith)
    (seats_fit libraries workers (from + 1) (omega arith) (λ place one found. each (suc place) one found ∙ omega arith))

-- what the laws of engines, libraries and boards say
pub record ServeLaws : Type 0 where
  pub life : LifeLaws
  pub begins : (requests : ℕ) (life : Life) → AreUnused life.library.ends → life.library ≡ new_library life.library.ends requests → life.calls ≡ [] → HasLived IsReportedAs requests life
  pub first : (config : Config) (moment : ℕ) (shared : Shared) (engine : Engine) → StartsEngineOf config moment shared engine → IsAccountedAt no_entries (first_machines config) engine.moment engine.sessions
  pub first_texts : (config : Config) (moment : ℕ) (shared : Shared) (engine : Engine) (links : ℕ → Link) → StartsEngineOf config moment shared engine → TookTheirTexts engine.sessions.desk.board links
  pub drives : (start : ℕ → State) (connections libraries count : ℕ) (old new : Drive) → DrivesFor connections libraries count old new → IsAccountedDrive no_entries start old → IsAccountedDrive no_entries start new
  pub goes_on : (connections libraries count : ℕ) (old new : Drive) → DrivesFor connections libraries count old new → DeskGoesOn old.at.engine.sessions new.at.engine.sessions
  pub further : (first second third : Board) → GoesOnTo first second → GoesOnTo second third → GoesOnTo first third
  pub meets : (start : ℕ → State) → MeetLaws no_entries start
  pub leaves : (start : ℕ → State) (engine : Engine) (links : ℕ → Link) (seats : List LibraryView) (reports : List LibReport) (left : RunRecord)
      → Finishes seats engine.lines.unkept.items engine.accepted engine.moment (until_of engine) engine.sessions left.engine → left.libraries ≡ reports → IsAccountedAt no_entries start engine.moment engine.sessions
      → TookTheirTexts engine.sessions.desk.board links → All (FitsTable engine.sessions.desk.seat.table.shape.libraries) seats → LeavesAccounted no_entries start engine links seats reports left
  pub reported : (start : ℕ → State) (requests : ℕ) (engine : Engine) (links : ℕ → Link) (seats : List LibraryView) (reports : List LibReport) (left : RunRecord) (leaves : LeavesAccounted no_entries start engine links seats reports left)
      (place : ℕ) (life : Life) → IsLifeAt requests engine.sessions place life → (report : LibReport) → Contains seats life.library.ends.seat → report.number ≡ life.number → report.calls ≡ life.calls
      → IsReported requests no_entries leaves.gathered.board engine.sessions place report

module _ (laws : ServeLaws) (script : Script) (turns : ℕ) (wide : Bool) (Read : List ℕ → Type 0) (old new : Door) (old_links new_links : ℕ → Link) (left : RunRecord) (spent : Option ℕ)
    (serves : Serves script turns wide Read old new old_links new_links left spent) where
  abbrev config : Config
  config = script.config

  abbrev start : ℕ → State
  start = first_machines config

  abbrev shape : Shape
  shape = serves.shared.leases.shape

  abbrev last : Engine
  last = serves.last

  abbrev begin : Drive
  begin = drive_of (at_wire serves.first old old_links) [] []

  driven : IsAccountedDrive no_entries start serves.drives.last
  driven = laws.drives start (connections_of config) config.libraries serves.drives.count begin serves.drives.last serves.drives.drives (record {
    engine = laws.first config (min serves.reading LAST_MOMENT) serves.shared serves.first serves.starts;
    texts = laws.first_texts config (min serves.reading LAST_MOMENT) serves.shared serves.first old_links serves.starts;
  })

  last_accounted : IsAccountedAt no_entries start last.moment last.sessions
  last_accounted = subst (λ (a : AtWire). IsAccountedAt no_entries start a.engine.moment a.engine.sessions) serves.drives.at driven.engine

  last_texts : TookTheirTexts last.sessions.desk.board new_links
  last_texts = subst (λ (a : AtWire). TookTheirTexts a.engine.sessions.desk.board a.links) serves.drives.at driven.texts

  went_on : DeskGoesOn serves.first.sessions last.sessions
  went_on = subst (λ (a : AtWire). DeskGoesOn serves.first.sessions a.engine.sessions) serves.drives.at
      (laws.goes_on (connections_of config) config.libraries serves.drives.count begin serves.drives.last serves.drives.drives)

  -- the table is for the configured libraries, and as many sessions as each seat knows of
  last_table : last.sessions.desk.seat.table.shape ≡ shape
  last_table = ap (λ (t : TableRef). t.shape) went_on.sides.table ∙ ap (λ (v : EngineView). v.table.shape) serves.starts.desk.seat

  table_libraries : last.sessions.desk.seat.table.shape.libraries ≡ config.libraries
  table_libraries = ap (λ (k : Shape). k.libraries) last_table ∙ ap (λ (k : Shape). k.libraries) serves.starts.table.shape

  -- a library, once it has worked
  worked_at : (place : ℕ) (worker : Worker) → slice_get serves.worked place ≡ Some worker → IsHere config.asks 0 last.sessions place worker
  worked_at place worker found =
      let within : place < length serves.worked = slice_get_within serves.worked place worker found in
      let was_within : place < length serves.begun = (let count = serves.works.count in omega arith) in
      let was = get_or serves.begun place worker in
      let there : get_or serves.worked place worker ≡ worker = same_Some _ _ (sym (slice_get-get_or serves.worked place worker within) ∙ found) in
      let one : StartsWorker config.asks serves.shared script.steps place was = serves.libraries.each place was (slice_get-get_or serves.begun place worker was_within) in
      let works : Works wide turns was worker = subst (Works wide turns was) there (serves.works.each place worker was_within) in
      let whole : worker.short ≡ false = All-contains (λ (w : Worker). w.short ≡ false) serves.worked worker serves.concludes.whole (place, within, there) in
      let runs : HasRun wide turns was worker = works.runs whole in
      let number : worker.number ≡ was.number = ap (λ (w : Worker). w.number) works.rest in
      let at : worker.number ≡ place + 1 = number ∙ one.number in
      let before : Life = record { number = worker.number; library = was.library; calls = [] } in
      let begun : Lives config.asks worker.number shape.sessions before = record {
        lived = laws.begins config.asks before (record {
          sessions = λ s. ap (λ (v : LibraryView). library_at v s) one.seat ∙ none_there shape.sessions s no_library_session;
          pushed = ap (λ tail. tail.pushed) one.tail;
          popped = ap (λ head. head.popped) one.head;
        }) one.library refl;
        seat = ap (λ (v : LibraryView). v.knows.number) one.seat ∙ sym at;
        count = ap (λ (v : LibraryView). length v.knows.sessions) one.seat ∙ length-replicate shape.sessions no_library_session;
      } in
      let ran = plan_run laws.life config.asks worker.number shape.sessions wide turns was.number was.plan.items was.library worker.library worker.report runs.runs begun in
      let table : last.sessions.desk.seat.table.shape.sessions ≡ shape.sessions = ap (λ (k : Shape). k.sessions) last_table in
      record {
        number = at;
        seat = ran.seat ∙ at;
        reported = ap (λ (r : LibReport). r.number) runs.runs.reported ∙ one.number;
        lived = ran.lived;
        waiting = λ all. (let count = ran.count in omega arith);
        served = λ none. absurd (omega arith);
      }

  -- the engine has met them
  have_met : HaveMet no_entries start (laws.meets start) config.asks last (length serves.worked) (length serves.worked) serves.concludes.met
  have_met = met_all no_entries start (laws.meets start) config.asks last (length serves.worked) (length serves.worked) (meeting_of last serves.worked) serves.concludes.met serves.concludes.meets (record {
    engine = refl;
    accounted = last_accounted;
    table = refl;
    workers = refl;
    each = worked_at;
  })

  abbrev met : Meeting
  met = serves.concludes.met

  abbrev seats : List LibraryView
  seats = map seat_of met.workers

  abbrev reports : List LibReport
  reports = map report_of met.workers

  many : length met.workers ≡ config.libraries
  many = have_met.workers ∙ serves.works.count ∙ serves.libraries.as_many

  same_board : met.engine.sessions.desk.board ≡ last.sessions.desk.board
  same_board = ap (λ (e : Engine). e.sessions.desk.board) have_met.engine

  -- what is left
  leaves : LeavesAccounted no_entries start met.engine new_links seats reports left
  leaves =
      let libraries : met.engine.sessions.desk.seat.table.shape.libraries ≡ config.libraries = ap (λ (t : TableRef). t.shape.libraries) have_met.table ∙ table_libraries in
      let count = many in
      laws.leaves start met.engine new_links seats reports left serves.concludes.leaves.finishes serves.concludes.leaves.libraries
      (subst (λ n. IsAccountedAt no_entries start n met.engine.sessions) (sym (ap (λ (e : Engine). e.moment) have_met.engine)) have_met.accounted)
      (subst (λ (b : Board). TookTheirTexts b new_links) (sym same_board) last_texts)
      (seats_fit met.engine.sessions.desk.seat.table.shape.libraries met.workers 0 (omega arith) (λ place worker found. (have_met.each place worker found).seat ∙ omega arith))

  life_at : (place : ℕ) (worker : Worker) → slice_get met.workers place ≡ Some worker → IsLifeAt config.asks met.engine.sessions place (life_of worker)
  life_at place worker found =
      let one = have_met.each place worker found in
      let within = slice_get_within met.workers place worker found in
      let count = have_met.workers in
      record { number = one.number; seat = one.seat; lived = one.lived; served = one.served (omega arith) }

  each_reported : (place : ℕ) (report : LibReport) → slice_get left.libraries place ≡ Some report → IsReported config.asks no_entries leaves.gathered.board met.engine.sessions place report
  each_reported place report found =
      let at = mapped_at report_of met.workers place report (subst (λ all. slice_get all place ≡ Some report) leaves.libraries found) in
      let worker = at.0 in
      let here = have_met.each place worker at.1.0 in
      subst (IsReported config.asks no_entries leaves.gathered.board met.engine.sessions place) at.1.1
      (laws.reported start config.asks met.engine new_links seats reports left leaves place (life_of worker) (life_at place worker at.1.0) (report_of worker) (seat_there met.workers place worker at.1.0)
      (here.reported ∙ sym here.number) refl)

  pub served_accounted : IsServedRecord script new_links last left
  served_accounted =
      let began = serves.starts.sessions in
      let goes_on = laws.further serves.first.sessions.desk.board last.sessions.desk.board leaves.gathered.board went_on.board (subst (λ (b : Board). GoesOnTo b leaves.gathered.board) same_board leaves.goes_on) in
      record {
        engine = met.engine;
        has_met = have_met.engine;
        seats = seats;
        reports = reports;
        leaves = leaves;
        sessions = record {
          count = goes_on.sessions ∙ began.count;
          names = λ s small. (goes_on.same s).names ∙ ap (λ (book : Book). book.machine.names) (began.books s small);
          leases = λ s small. (goes_on.books s).leases ∙ ap (λ (book : Book). book.leases) (began.books s small);
          dials = λ s small. (goes_on.same s).dials ∙ ap (λ (book : Book). book.machine.dials) (began.books s small);
        };
        libraries = ap length leaves.libraries ∙ length-map met.workers report_of ∙ many;
        reported = each_reported;
      }
