-- What a run leaves for which memory was wanting.
use Rattle.std.proofs.Common.{◌≡◌, inl, inr, ℕ, ◌<◌, ◌≤◌, true, false, List, [], ◌∷◌, length, map, refl, sym, ap, subst, ◌∙◌, arith}
use Rattle.std.proofs.lemmas.List.{length-map, length-set}
use Rattle.std.proofs.lemmas.List.Elements.{All-cons, All-nil}
use Rattle.std.specs.List.{All}
use Rattle.std.specs.Prelude.{◌⊎◌, Bool, min}
use Rattle.engine_config.specs.declared.config.Config.{Config}
use Rattle.engine_laws.specs.Account.{IsAccountedFor, IsAside, StaysAccountedFor}
use Rattle.engine_laws.specs.Stopped.{IsAccountedInPart}
use Rattle.engine_loop.specs.Engines.{until_of}
use Rattle.engine_loop.specs.Stops.{StopsTurn}
use Rattle.engine_loop.specs.Turns.{AtWire, at_wire}
use Rattle.engine_loop.specs.declared.engine.Engine.{Engine}
use Rattle.gate_io.specs.MemWire.{door_of, link_at}
use Rattle.gate_io.specs.Wire.{Door, Link}
use Rattle.gate_io.specs.declared.clocks.TheConstants.{LAST_MOMENT}
use Rattle.headline.proofs.Coming.{AtWireInOrder, carried_out, first_numbered}
use Rattle.headline.proofs.Driven.{drove_in_order, first_in_order}
use Rattle.headline.proofs.InPartKinds.{AreNumberedSo, SameKinds, kinds_kept, ordered, so_they_stay}
use Rattle.headline.proofs.InPartStops.{turn_stopped}
use Rattle.headline.proofs.InPartTold.{AreTheSessions, headline_in_part}
use Rattle.headline.proofs.Walk.{IsKept, gathered}
use Rattle.headline.proofs.Walking.{each_in_turn}
use Rattle.headline.specs.InPart.{HeadlineInPart}
use Rattle.headline.specs.Numbering.{IsInOrder}
use Rattle.lease_core.specs.declared.entry.Entry.{Entry}
use Rattle.lease_desk.specs.Desk.{Gathers, InTurn}
use Rattle.lease_desk.specs.declared.desk.LeaseDesk.{LeaseDesk}
use Rattle.lease_words.specs.Views.{LibraryView}
use Rattle.library_desk.specs.Happening.{RunsFor}
use Rattle.library_desk.specs.Serving.{Serves as ServesLibrary}
use Rattle.library_desk.specs.declared.desk.LibraryDesk.{LibraryDesk}
use Rattle.library_desk.specs.declared.serving.LibTurn.{LibTurn}
use Rattle.library_desk.specs.declared.shared.Shared.{Shared}
use Rattle.headline.specs.runs.Accounted.{IsAccountedAt, IsAccountedRun, first_machines, no_entries}
use Rattle.headline.specs.runs.Sides.{DeskGoesOn, RunGoesOn}
use Rattle.run_report.specs.declared.records.RunRecord.{RunRecord}
use Rattle.engine_loop.specs.Starts.{StartsEngineOf}
use Rattle.script_run.specs.Means.{StartsRun, first_moment, report_of, seat_of}
use Rattle.script_run.specs.Runs.{CarriesOut, with_room}
use Rattle.engine_loop.specs.Leaving.{GathersInPart, LeavesAsItStood}
use Rattle.script_run.specs.Stops.{LeadsInPart, MeansInPart, StopsInStep}
use Rattle.script_run.specs.declared.run.Run.{Run}
use Rattle.script_text.specs.declared.steps.Script.{Script}
use Rattle.script_text.specs.declared.steps.Step.{Step}
use Rattle.headline.specs.serving.Driven.{IsAccountedDrive}
use Rattle.headline.specs.Needed.{WalkLaws}
use Rattle.serve_run.specs.Drives.{Drive, DrivesFor, drive_of}
use Rattle.serve_run.specs.Meetings.{Meeting, MeetsAt, meeting_of}
use Rattle.serve_run.specs.Serves.{connections_of}
use Rattle.serve_run.specs.Stops.{DrivesInPart, DrivesToAnEnd, LeavesInPart, ServesInPart}
use Rattle.serve_run.specs.Workers.{report_of as worker_report, seat_of as worker_seat}
use Rattle.serve_run.specs.declared.workers.Worker.{Worker}
use Rattle.session_core.specs.State.{State}
use Rattle.switchboard.specs.Board.{Board, book_at}
use Rattle.switchboard.specs.Going.{GoesOnTo}
use Rattle.switchboard.specs.Happenings.{Happening, Reaches, reserves}
use Rattle.switchboard.specs.Ready.{IsReady}
use Rattle.switchboard.specs.Stops.{HaveSameSessions}

-- what the laws say of accounts, and of runs that are carried out and served
pub record PartLaws (before : ℕ → List Entry) (start : ℕ → State) : Type 0 where
  pub walks : WalkLaws
  pub itself : (at : ℕ) (board : Board) → StaysAccountedFor at board board
  pub further : (at : ℕ) (first second third : Board) → StaysAccountedFor at first second → StaysAccountedFor at second third → StaysAccountedFor at first third
  pub gathers : (s at until : ℕ) (old new : LeaseDesk) → Gathers s at until old new → StaysAccountedFor at old.board new.board
  pub aside : (at : ℕ) (happenings : List Happening) (old new : Board) → All (IsAside at) happenings → Reaches happenings old new → StaysAccountedFor at old new
  pub goes_on : IsKept GoesOnTo
  pub whole : (at : ℕ) (board : Board) → IsReady before board → IsAccountedFor before start at board → IsAccountedInPart before start board
  pub turn : (reading : ℕ) (old : AtWire) (new : Engine) → StopsTurn reading old new → IsReady before old.engine.sessions.desk.board → IsAccountedFor before start old.engine.moment old.engine.sessions.desk.board
      → IsAccountedInPart before start new.sessions.desk.board
  pub sessions : (reading : ℕ) (old : AtWire) (new : Engine) → StopsTurn reading old new → HaveSameSessions old.engine.sessions.desk.board new.sessions.desk.board
  pub serving : (library at until : ℕ) (old new : LibraryDesk) (turn : LibTurn) → ServesLibrary library at until old new turn → RunsFor at old.desk.board new.desk.board
  pub run : (steps : List Step) (count : ℕ) (old new : Run) → CarriesOut steps count old new → IsAccountedRun before start old → IsAccountedRun before start new
  pub run_goes_on : (steps : List Step) (count : ℕ) (old new : Run) → CarriesOut steps count old new → RunGoesOn old new
  pub drive : (connections libraries count : ℕ) (old new : Drive) → DrivesFor connections libraries count old new → IsAccountedDrive before start old → IsAccountedDrive before start new
  pub drive_goes_on : (connections libraries count : ℕ) (old new : Drive) → DrivesFor connections libraries count old new → DeskGoesOn old.at.engine.sessions new.at.engine.sessions

-- each session has its names and its leases
sessions_stay : (config : Config) (old new : Board) → length new.sessions ≡ length old.sessions → ((s : ℕ) → (book_at new s).machine.names ≡ (book_at old s).machine.names)
    → ((s : ℕ) → (book_at new s).leases ≡ (book_at old s).leases) → AreTheSessions config old → AreTheSessions config new
sessions_stay config old new count names leases was = record {
  count = count ∙ was.count;
  names = λ s small. names s ∙ was.names s (subst (λ n. s < n) count small);
  leases = λ s small. leases s ∙ was.leases s (subst (λ n. s < n) count small);
}

sessions_go_on : (config : Config) (old new : Board) → GoesOnTo old new → AreTheSessions config old → AreTheSessions config new
sessions_go_on config old new is = sessions_stay config old new is.sessions (λ s. (is.same s).names) (λ s. (is.books s).leases)

first_sessions : (config : Config) (moment : ℕ) (shared : Shared) (engine : Engine) → StartsEngineOf config moment shared engine → AreTheSessions config engine.sessions.desk.board
first_sessions config moment shared engine starts = record {
  count = starts.sessions.count;
  names = λ s small. ap (λ book. book.machine.names) (starts.sessions.books s (subst (λ n. s < n) starts.sessions.count small));
  leases = λ s small. ap (λ book. book.leases) (starts.sessions.books s (subst (λ n. s < n) starts.sessions.count small));
}

module _ (config : Config) (g : PartLaws no_entries (first_machines config)) where
  abbrev start : ℕ → State
  start = first_machines config

  -- sessions and connections, where all is accounted for up to a moment
  record StandsWhole (moment : ℕ) (board : Board) : Type 0 where
    sessions : AreTheSessions config board
    numbers : AreNumberedSo board
    ready : IsReady no_entries board
    account : IsAccountedFor no_entries start moment board

  -- an engine, where all is so that wasn't in the midst of a turn
  record Stands (engine : Engine) : Type 0 where
    sessions : AreTheSessions config engine.sessions.desk.board
    numbers : AreNumberedSo engine.sessions.desk.board
    account : IsAccountedInPart no_entries start engine.sessions.desk.board
    whole : engine.failed ≡ false → StandsWhole engine.moment engine.sessions.desk.board

  stands_whole : (engine : Engine) → StandsWhole engine.moment engine.sessions.desk.board → Stands engine
  stands_whole engine is = record {
    sessions = is.sessions;
    numbers = is.numbers;
    account = g.whole engine.moment engine.sessions.desk.board is.ready is.account;
    whole = λ failed. is;
  }

  whole_as : (old new : Engine) → new.sessions.desk.board ≡ old.sessions.desk.board → new.moment ≡ old.moment → StandsWhole old.moment old.sessions.desk.board → StandsWhole new.moment new.sessions.desk.board
  whole_as old new board moment was = subst (λ n. StandsWhole n new.sessions.desk.board) (sym moment) (subst (StandsWhole old.moment) (sym board) was)

  stands_as : (old new : Engine) → new.sessions.desk.board ≡ old.sessions.desk.board → new.moment ≡ old.moment → new.failed ≡ old.failed → Stands old → Stands new
  stands_as old new board moment failed was = record {
    sessions = subst (AreTheSessions config) (sym board) was.sessions;
    numbers = subst AreNumberedSo (sym board) was.numbers;
    account = subst (IsAccountedInPart no_entries start) (sym board) was.account;
    whole = λ stands. whole_as old new board moment (was.whole (sym failed ∙ stands));
  }

  -- a turn stopped
  stopped : (reading : ℕ) (old : AtWire) (new : Engine) → StopsTurn reading old new → AtWireInOrder old → StandsWhole old.engine.moment old.engine.sessions.desk.board → Stands new
  stopped reading old new stops order was =
      let same = g.sessions reading old new stops in
      record {
        sessions = sessions_stay config old.engine.sessions.desk.board new.sessions.desk.board same.count (λ s. (same.same s).names) same.leases was.sessions;
        numbers = turn_stopped g.walks g.serving reading old new stops order;
        account = g.turn reading old new stops was.ready was.account;
        whole = λ stands. absurd (let clash : true ≡ false = sym stops.failed ∙ stands in cc);
      }

  -- each session is gathered, or some are
  record Gathered (at : ℕ) (old new : LeaseDesk) : Type 0 where
    kinds : SameKinds old.board new.board
    goes_on : GoesOnTo old.board new.board
    account : StaysAccountedFor at old.board new.board

  none_gathered : (at : ℕ) (desk : LeaseDesk) → Gathered at desk desk
  none_gathered at desk = record { kinds = refl; goes_on = g.goes_on.itself desk.board; account = g.itself at desk.board }

  further_gathered : (at : ℕ) (first second third : LeaseDesk) → Gathered at first second → Gathered at second third → Gathered at first third
  further_gathered at first second third one two = record {
    kinds = two.kinds ∙ one.kinds;
    goes_on = g.goes_on.further first.board second.board third.board one.goes_on two.goes_on;
    account = g.further at first.board second.board third.board one.account two.account;
  }

  so_many_gathered : (count at until : ℕ) (old new : LeaseDesk) → InTurn (λ s. Gathers s at until) count old new → Gathered at old new
  so_many_gathered count at until old new gathers =
      each_in_turn (λ s. Gathers s at until) (Gathered at) (none_gathered at) (further_gathered at) (λ s a b is. record {
        kinds = gathered SameKinds kinds_kept s at until a b is;
        goes_on = gathered GoesOnTo g.goes_on s at until a b is;
        account = g.gathers s at until a b is;
      }) count old new gathers

  in_part : (at until : ℕ) (old new : LeaseDesk) → GathersInPart at until old new → Gathered at old new
  in_part at until old new is = elim is [
    | inl same ↦ subst (Gathered at old) (sym same) (none_gathered at old)
    | inr more ↦ elim more [
      | inl all ↦ so_many_gathered (length old.board.sessions) at until old new all
      | inr some ↦ (
          let between = some.between in
          let room = reserves some.count in
          let rests = some.rests.happens in
          further_gathered at old between new (so_many_gathered some.count at until old between some.gathers) (record {
            kinds = kinds_kept.happens room between.board new.board refl rests;
            goes_on = g.goes_on.happens room between.board new.board refl rests;
            account = g.aside at (room ∷ []) between.board new.board (All-cons (IsAside at) room [] tt (All-nil (IsAside at))) (new.board, (rests, refl));
          }))
    ]
  ]

  -- what such an engine leaves
  left_in_part : (seats : List LibraryView) (engine : Engine) (left : RunRecord) → LeavesAsItStood seats engine left.engine → Stands engine → length left.libraries ≤ config.libraries → HeadlineInPart config left
  left_in_part seats engine left leaves stands libraries =
      let board = leaves.gathered.board in
      let strays = engine.sessions.strays.items in
      elim leaves.gathers [
        | inl same ↦ headline_in_part config board strays engine.accepted leaves.added left leaves.leaves (subst (λ (d : LeaseDesk). AreNumberedSo d.board) (sym same) stands.numbers)
            (subst (λ (d : LeaseDesk). IsAccountedInPart no_entries start d.board) (sym same) stands.account) (subst (λ (d : LeaseDesk). AreTheSessions config d.board) (sym same) stands.sessions) libraries
        | inr more ↦ (
            let was = engine.sessions.desk.board in
            let whole = stands.whole more.0 in
            let at = engine.moment in
            let is = in_part at (until_of engine) _ leaves.gathered more.1 in
            headline_in_part config board strays engine.accepted leaves.added left leaves.leaves (so_they_stay was board is.kinds whole.numbers)
            (g.whole at board (is.account.ready no_entries whole.ready) (is.account.account no_entries start at (omega arith) whole.ready whole.account)) (sessions_go_on config was board is.goes_on whole.sessions) libraries)
      ]

  whole_at : (engine : Engine) → AreTheSessions config engine.sessions.desk.board → AreNumberedSo engine.sessions.desk.board → IsAccountedAt no_entries start engine.moment engine.sessions
      → StandsWhole engine.moment engine.sessions.desk.board
  whole_at engine sessions numbers is = record { sessions = sessions; numbers = numbers; ready = is.ready; account = is.account }

  -- a script that is carried out: a step for which memory was wanting
  module _ (steps : List Step) (moment : ℕ) (shared : Shared) (first : Run) (starts : StartsRun config moment shared first) (first_account : IsAccountedRun no_entries start first) where
    record RunStands (run : Run) : Type 0 where
      whole : StandsWhole run.engine.moment run.engine.sessions.desk.board
      order : IsInOrder run
      libraries : length run.callers.items ≡ config.libraries

    behind : (count : ℕ) (run : Run) → CarriesOut steps count first run → RunStands run
    behind count run carries =
        let goes = g.run_goes_on steps count first run carries in
        let order = carried_out g.walks g.serving steps count first run carries (first_numbered config moment shared first starts) in
        let board = run.engine.sessions.desk.board in
        record {
          whole = whole_at run.engine (sessions_go_on config first.engine.sessions.desk.board board goes.engine.board (first_sessions config moment shared first.engine starts.engine))
              (ordered run.wire.accepted run.wire.dialled board order.connections) (g.run steps count first run carries first_account).engine;
          order = order;
          libraries = goes.libraries ∙ starts.callers.count ∙ starts.engine.table.rings.commands;
        }

    in_step : (old new : Run) → StopsInStep old new → RunStands old → Stands new.engine
    in_step old new stops was = elim stops [
      | inl keeps ↦ stands_whole new.engine (whole_as old.engine new.engine keeps.board keeps.moment was.whole)
      | inr stops_turn ↦ (
          let room = (with_room old).wire in
          stopped stops_turn.0 (at_wire old.engine (door_of room) (link_at room)) new.engine stops_turn.1 (record { counted = was.order.counted; connections = was.order.connections }) was.whole)
    ]

    pub led : (left : RunRecord) → LeadsInPart steps first left → HeadlineInPart config left
    led left leads =
        let last = leads.last in
        let leaves = leads.leaves in
        let seats = map seat_of last.callers.items in
        let reports = ap length leaves.libraries ∙ length-map last.callers.items report_of in
        elim leads.carries [
          | inl all ↦ (
              let stands = behind (length steps) last all in
              let libraries = stands.libraries in
              left_in_part seats last.engine left leaves.engine (stands_whole last.engine stands.whole) (omega arith))
          | inr along ↦ (
              let stands = behind along.count along.between along.carries in
              let libraries = along.libraries ∙ stands.libraries in
              left_in_part seats last.engine left leaves.engine (in_step along.between last along.stops stands) (omega arith))
        ]

  -- a script that is served
  record MetAs (old new : Meeting) : Type 0 where
    board : new.engine.sessions.desk.board ≡ old.engine.sessions.desk.board
    moment : new.engine.moment ≡ old.engine.moment
    failed : new.engine.failed ≡ old.engine.failed
    workers : length new.workers ≡ length old.workers

  met_itself : (meeting : Meeting) → MetAs meeting meeting
  met_itself meeting = record { board = refl; moment = refl; failed = refl; workers = refl }

  met_one : (place : ℕ) (old new : Meeting) → MeetsAt place old new → MetAs old new
  met_one place old new is =
      let engine = is.meets.engine in
      record {
        board = ap (λ (e : Engine). e.sessions.desk.board) engine;
        moment = ap (λ (e : Engine). e.moment) engine;
        failed = ap (λ (e : Engine). e.failed) engine;
        workers = ap length is.workers ∙ length-set old.workers place is.after;
      }

  met_all : (count : ℕ) (old new : Meeting) → InTurn MeetsAt count old new → MetAs old new
  met_all count old new meets =
      each_in_turn MeetsAt MetAs met_itself (λ a b c one two. record {
        board = two.board ∙ one.board;
        moment = two.moment ∙ one.moment;
        failed = two.failed ∙ one.failed;
        workers = two.workers ∙ one.workers;
      }) met_one count old new meets

  met : (engine : Engine) (workers : List Worker) (left : RunRecord) → LeavesInPart engine workers left → Stands engine → length workers ≤ config.libraries → HeadlineInPart config left
  met engine workers left leaves stands few =
      let last = leaves.met in
      let is : MetAs (meeting_of engine workers) last = elim leaves.meets [
        | inl same ↦ subst (MetAs (meeting_of engine workers)) (sym same) (met_itself (meeting_of engine workers))
        | inr all ↦ met_all (length workers) (meeting_of engine workers) last all
      ] in
      let count = ap length leaves.libraries ∙ length-map last.workers worker_report ∙ is.workers in
      left_in_part (map worker_seat last.workers) last.engine left leaves.leaves (stands_as engine last.engine is.board is.moment is.failed stands) (omega arith)

  module _ (moment : ℕ) (shared : Shared) (first : Engine) (old : Door) (links : ℕ → Link) (starts : StartsEngineOf config moment shared first) (accepted : old.accepted ≡ 0) (dialled : old.dialled ≡ 0)
      (account : IsAccountedDrive no_entries start (drive_of (at_wire first old links) [] [])) where
    abbrev begin : Drive
    begin = drive_of (at_wire first old links) [] []

    order : AtWireInOrder (at_wire first old links)
    order = first_in_order config moment shared first old links starts accepted dialled

    so_far : (connections libraries count : ℕ) (new : Drive) → DrivesFor connections libraries count begin new → AtWireInOrder new.at × StandsWhole new.at.engine.moment new.at.engine.sessions.desk.board
    so_far connections libraries count new drives =
        let ordered_so = drove_in_order g.walks g.serving connections libraries count begin new drives order in
        let goes = g.drive_goes_on connections libraries count begin new drives in
        let board = new.at.engine.sessions.desk.board in (
          ordered_so,
          whole_at new.at.engine (sessions_go_on config first.sessions.desk.board board goes.board (first_sessions config moment shared first starts))
              (ordered new.at.door.accepted new.at.door.dialled board ordered_so.connections) (g.drive connections libraries count begin new drives account).engine,
        )

    driven : (connections libraries turns : ℕ) (last : Engine) → DrivesToAnEnd connections libraries turns (at_wire first old links) last ⊎ DrivesInPart connections libraries turns (at_wire first old links) last → Stands last
    driven connections libraries turns last drives = elim drives [
      | inl ended ↦ (
          let is = ended.drives in
          stands_whole last (subst (λ (a : AtWire). StandsWhole a.engine.moment a.engine.sessions.desk.board) is.at (so_far connections libraries is.count is.last is.drives).1))
      | inr is ↦ (
          let between = so_far connections libraries is.count is.between is.drives in
          stopped is.reading is.between.at last is.stops between.0 between.1)
    ]

pub means_in_part : (script : Script) (left : RunRecord) → PartLaws no_entries (first_machines script.config) → (means : MeansInPart script left) → IsAccountedRun no_entries (first_machines script.config) means.first → HeadlineInPart script.config left
means_in_part script left g means account = led script.config g script.steps (first_moment script.steps) means.shared means.first means.starts account left means.leads

pub serves_in_part : (script : Script) (turns : ℕ) (wide : Bool) (old : Door) (links : ℕ → Link) (left : RunRecord) → PartLaws no_entries (first_machines script.config) → (serves : ServesInPart script turns wide old links left)
    → old.accepted ≡ 0 → old.dialled ≡ 0 → IsAccountedDrive no_entries (first_machines script.config) (drive_of (at_wire serves.first old links) [] []) → HeadlineInPart script.config left
serves_in_part script turns wide old links left g serves accepted dialled account =
    let config = script.config in
    let first = serves.first in
    let moment = min serves.reading LAST_MOMENT in
    elim serves.runs [
      | inl leaves ↦ met config g first [] left leaves
          (stands_whole config g first (so_far config g moment serves.shared first old links serves.starts accepted dialled account 0 0 0 (drive_of (at_wire first old links) [] []) refl).1) (omega arith)
      | inr runs ↦ (
          let count = runs.works.count ∙ runs.libraries.as_many in
          met config g runs.last runs.worked left runs.leaves
          (driven config g moment serves.shared first old links serves.starts accepted dialled account (connections_of config) config.libraries turns runs.last runs.drives) (omega arith))
    ]
