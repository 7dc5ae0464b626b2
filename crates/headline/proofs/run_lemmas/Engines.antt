-- An engine stays accounted for over each turn, as it meets a library, and over the last gathering.
use Rattle.std.proofs.Common.{◌≡◌, ◌≢◌, ℕ, ◌<◌, ◌≤◌, List, length, None, refl, ap, subst, sym, ◌∙◌, arith}
use Rattle.std.proofs.lemmas.List.Elements.{All-contains}
use Rattle.std.specs.List.{All, Contains}
use Rattle.engine_end.specs.Finishing.{Finishes, GathersAll, after_settling}
use Rattle.engine_end.specs.Meeting.{RingsMeet, SeatsMeet}
use Rattle.engine_end.specs.declared.records.EngineRecord.{EngineRecord}
use Rattle.engine_laws.specs.Account.{IsAccountedFor, KeepsAccount, Progress, StaysAccountedFor, all_done}
use Rattle.engine_laws.specs.Turns.{board_of}
use Rattle.engine_loop.specs.Engines.{until_of}
use Rattle.engine_loop.specs.Turns.{AtWire, MakesTurn}
use Rattle.engine_loop.specs.declared.engine.Engine.{Engine}
use Rattle.engine_loop.specs.declared.records.Turn.{Turn}
use Rattle.gate_io.specs.Wire.{Link}
use Rattle.lease_core.specs.declared.entry.Entry.{Entry}
use Rattle.lease_core.specs.declared.messages.Command.{Command}
use Rattle.lease_core.specs.declared.messages.Notice.{Notice}
use Rattle.lease_desk.specs.Desk.{Gathers}
use Rattle.lease_desk.specs.declared.desk.LeaseDesk.{LeaseDesk}
use Rattle.lease_words.specs.Views.{LibraryView, TableRef, library_at}
use Rattle.library_api.specs.Ends.{EndsView}
use Rattle.library_desk.specs.declared.desk.LibraryDesk.{LibraryDesk}
use Rattle.engine_laws.specs.libraries.Feeds.{AreFed}
use Rattle.engine_laws.specs.libraries.Replies.{AreAnswered}
use Rattle.engine_laws.specs.libraries.Sends.{AreLogged, AreTaken}
use Rattle.engine_laws.specs.libraries.Spans.{AllLieWithin}
use Rattle.headline.proofs.Walking.{each_in_turn}
use Rattle.ring_links.specs.Ends.{HeadView, TailView}
use Rattle.headline.specs.runs.Accounted.{AllTookAsAnswered, FitsTable, IsAccountedAt, LeavesAccounted, TookTextOrCutShort}
use Rattle.headline.specs.runs.Lives.{DesksMeet}
use Rattle.headline.proofs.run_lemmas.GoingOn.{all_gathered}
use Rattle.headline.proofs.run_lemmas.Settled.{leases_stand}
use Rattle.headline.specs.Needed.{GoingLaws}
use Rattle.run_report.specs.declared.records.LibReport.{LibReport}
use Rattle.run_report.specs.declared.records.RunRecord.{RunRecord}
use Rattle.session_book.specs.Records.{Pending}
use Rattle.session_core.specs.State.{State}
use Rattle.switchboard.specs.Board.{Board, book_at, connection_at}
use Rattle.switchboard.specs.Ready.{IsReady}
use Rattle.engine_laws.specs.texts.Answered.{DialledAreSo}
use Rattle.engine_laws.specs.texts.Taken.{TookTheirTexts}

-- what the laws of turns, meetings and gatherings say
pub record Laws (before : ℕ → List Entry) (start : ℕ → State) : Type 0 where
  pub going : GoingLaws
  pub turn_ready : (reading : ℕ) (old new : AtWire) (turn : Turn) → MakesTurn reading old new turn → IsReady before (board_of old.engine) → IsReady before (board_of new.engine)
  pub turn_account : (reading : ℕ) (old new : AtWire) (turn : Turn) → MakesTurn reading old new turn → IsReady before (board_of old.engine)
      → IsAccountedFor before start old.engine.moment (board_of old.engine) → IsAccountedFor before start new.engine.moment (board_of new.engine)
  pub turn_answered : (reading : ℕ) (old new : AtWire) (turn : Turn) → MakesTurn reading old new turn → AreAnswered before old.engine.sessions → AreAnswered before new.engine.sessions
  pub turn_fed : (reading : ℕ) (old new : AtWire) (turn : Turn) → MakesTurn reading old new turn → AreFed old.engine.sessions → AreFed new.engine.sessions
  pub turn_within : (reading : ℕ) (old new : AtWire) (turn : Turn) → MakesTurn reading old new turn → IsReady before old.engine.sessions.desk.board → AreFed old.engine.sessions
      → AllLieWithin old.engine.sessions → AllLieWithin new.engine.sessions
  pub turn_taken : (reading : ℕ) (old new : AtWire) (turn : Turn) → MakesTurn reading old new turn → IsReady before old.engine.sessions.desk.board
      → AreTaken before old.engine.sessions.desk → AreTaken before new.engine.sessions.desk
  pub turn_dialled : (reading : ℕ) (old new : AtWire) (turn : Turn) → MakesTurn reading old new turn → IsReady before old.engine.sessions.desk.board
      → DialledAreSo old.engine.sessions.desk.board → DialledAreSo new.engine.sessions.desk.board
  pub meets_answered : (library : ℕ) (old new : LibraryDesk) (tail_old tail_new : TailView Command) (head_old head_new : HeadView Notice) → 1 ≤ library
      → RingsMeet library old new tail_old tail_new head_old head_new → new ≡ record old { desk = record (old.desk) { seat = new.desk.seat }; ends = new.ends } → AreAnswered before old → AreAnswered before new
  pub meets_fed : (library : ℕ) (old new : LibraryDesk) (tail_old tail_new : TailView Command) (head_old head_new : HeadView Notice) → 1 ≤ library
      → RingsMeet library old new tail_old tail_new head_old head_new → new ≡ record old { desk = record (old.desk) { seat = new.desk.seat }; ends = new.ends } → AreFed old → AreFed new
  pub meets_within : (library : ℕ) (old new : LibraryDesk) (tail_old tail_new : TailView Command) (head_old head_new : HeadView Notice) → 1 ≤ library
      → RingsMeet library old new tail_old tail_new head_old head_new → new ≡ record old { desk = record (old.desk) { seat = new.desk.seat }; ends = new.ends } → AllLieWithin old → AllLieWithin new
  pub meets_taken : (library_old library_new : LibraryView) (old new : LeaseDesk) → SeatsMeet old.seat new.seat library_old library_new → new.board ≡ old.board → AreTaken before old → AreTaken before new
  pub gathers_account : (progress : ℕ → Progress) (s at until : ℕ) (old new : LeaseDesk) → Gathers s at until old new → KeepsAccount progress progress at old.board new.board
  pub itself : (progress : ℕ → Progress) (at : ℕ) (board : Board) → KeepsAccount progress progress at board board
  pub further : (one two three : ℕ → Progress) (at : ℕ) (first second third : Board) → KeepsAccount one two at first second → KeepsAccount two three at second third → KeepsAccount one three at first third
  pub gathers_answered : (seats : List LibraryView) (at until : ℕ) (old : LibraryDesk) (gathered : LeaseDesk) → GathersAll at until (after_settling seats old.desk) gathered
      → AreAnswered before old → AreAnswered before (record old { desk = gathered })
  pub gathers_fed : (seats : List LibraryView) (at until : ℕ) (old : LibraryDesk) (gathered : LeaseDesk) → GathersAll at until (after_settling seats old.desk) gathered → AreFed old → AreFed (record old { desk = gathered })
  pub gathers_within : (seats : List LibraryView) (at until : ℕ) (old : LibraryDesk) (gathered : LeaseDesk) → GathersAll at until (after_settling seats old.desk) gathered
      → AllLieWithin old → AllLieWithin (record old { desk = gathered })
  pub gathers_taken : (seats : List LibraryView) (at until : ℕ) (old gathered : LeaseDesk) → GathersAll at until (after_settling seats old) gathered → IsReady before old.board → AreTaken before old → AreTaken before gathered
  pub gathers_dialled : (seats : List LibraryView) (at until : ℕ) (old gathered : LeaseDesk) → GathersAll at until (after_settling seats old) gathered → IsReady before old.board → DialledAreSo old.board → DialledAreSo gathered.board
  pub finishes : (seats : List LibraryView) (unkept : List Pending) (accepted at until : ℕ) (old : LibraryDesk) (left : EngineRecord) (finished : Finishes seats unkept accepted at until old left)
      → IsReady before old.desk.board → AreTaken before old.desk → (s : ℕ) (seat : LibraryView) → s < length old.desk.board.sessions → Contains seats seat → 1 ≤ seat.knows.number
      → seat.knows.number ≤ old.desk.seat.table.shape.libraries → AreLogged seat.knows.number (before s) (book_at finished.gathered.board s) (library_at seat s).items
  pub text_gathers : (seats : List LibraryView) (links : ℕ → Link) (at until : ℕ) (old gathered : LeaseDesk) → GathersAll at until (after_settling seats old) gathered → IsReady before old.board
      → TookTheirTexts old.board links → TookTheirTexts gathered.board links
  pub text_answers : (board : Board) (links : ℕ → Link) → IsReady before board → TookTheirTexts board links → AllTookAsAnswered before board links
  pub text_told : (board : Board) (links : ℕ → Link) → IsReady before board → TookTheirTexts board links → (k : ℕ) → k < length board.connections → (connection_at board k).cause ≢ None → TookTextOrCutShort before board links k

module _ (before : ℕ → List Entry) (start : ℕ → State) (laws : Laws before start) where
  pub turn_made : (reading : ℕ) (old new : AtWire) (turn : Turn) → MakesTurn reading old new turn → IsAccountedAt before start old.engine.moment old.engine.sessions → IsAccountedAt before start new.engine.moment new.engine.sessions
  turn_made reading old new turn makes was = record {
    ready = laws.turn_ready reading old new turn makes was.ready;
    account = laws.turn_account reading old new turn makes was.ready was.account;
    answered = laws.turn_answered reading old new turn makes was.answered;
    fed = laws.turn_fed reading old new turn makes was.fed;
    within = laws.turn_within reading old new turn makes was.ready was.fed was.within;
    taken = laws.turn_taken reading old new turn makes was.ready was.taken;
    dialled = laws.turn_dialled reading old new turn makes was.ready was.dialled;
  }

  pub met : (moment library : ℕ) (old new : LibraryDesk) (ends_old ends_new : EndsView) → DesksMeet library old new ends_old ends_new → IsAccountedAt before start moment old → IsAccountedAt before start moment new
  met moment library old new ends_old ends_new is was =
      let board : new.desk.board ≡ old.desk.board = ap (λ (d : LibraryDesk). d.desk.board) is.rest in
      record {
        ready = subst (IsReady before) (sym board) was.ready;
        account = subst (IsAccountedFor before start moment) (sym board) was.account;
        answered = laws.meets_answered library old new _ _ _ _ is.from_one is.rings is.rest was.answered;
        fed = laws.meets_fed library old new _ _ _ _ is.from_one is.rings is.rest was.fed;
        within = laws.meets_within library old new _ _ _ _ is.from_one is.rings is.rest was.within;
        taken = laws.meets_taken _ _ old.desk new.desk is.seats board was.taken;
        dialled = subst DialledAreSo (sym board) was.dialled;
      }

  -- the last gathering keeps the account
  gathered_account : (at until : ℕ) (old new : LeaseDesk) → GathersAll at until old new → StaysAccountedFor at old.board new.board
  gathered_account at until old new gathers =
      each_in_turn (λ s. Gathers s at until) (λ (a b : LeaseDesk). StaysAccountedFor at a.board b.board) (λ d. laws.itself all_done at d.board)
      (λ a b c. laws.further all_done all_done all_done at a.board b.board c.board) (λ s. laws.gathers_account all_done s at until) (length old.board.sessions) old new gathers

  -- what an engine and its libraries leave
  pub left_by : (engine : Engine) (links : ℕ → Link) (seats : List LibraryView) (reports : List LibReport) (left : RunRecord)
      → Finishes seats engine.lines.unkept.items engine.accepted engine.moment (until_of engine) engine.sessions left.engine → left.libraries ≡ reports
      → IsAccountedAt before start engine.moment engine.sessions → TookTheirTexts engine.sessions.desk.board links → All (FitsTable engine.sessions.desk.seat.table.shape.libraries) seats
      → LeavesAccounted before start engine links seats reports left
  left_by engine links seats reports left finished libraries_are was texts fit =
      let at = engine.moment in
      let until = until_of engine in
      let old = engine.sessions in
      let gathered = finished.gathered in
      let keeps = gathered_account at until (after_settling seats old.desk) gathered finished.gathers in
      let libraries = old.desk.seat.table.shape.libraries in
      let taken = laws.gathers_taken seats at until old.desk gathered finished.gathers was.ready was.taken in
      let goes = all_gathered laws.going at until (after_settling seats old.desk) gathered finished.gathers in
      let table : gathered.seat.table ≡ old.desk.seat.table = goes.table in
      let sessions : length gathered.board.sessions ≡ length old.desk.board.sessions = taken.seated ∙ (ap (λ (t : TableRef). t.shape.sessions) table ∙ sym was.taken.seated) in
      record {
        gathered = gathered;
        gathers = finished.gathers;
        goes_on = goes.board;
        accounted = record {
          ready = keeps.ready before was.ready;
          account = keeps.account before start at (omega arith) was.ready was.account;
          answered = laws.gathers_answered seats at until old gathered finished.gathers was.answered;
          fed = laws.gathers_fed seats at until old gathered finished.gathers was.fed;
          within = laws.gathers_within seats at until old gathered finished.gathers was.within;
          taken = taken;
          dialled = laws.gathers_dialled seats at until old.desk gathered finished.gathers was.ready was.dialled;
        };
        leaves = (let leaves = finished.leaves in record { sessions = leaves.sessions; connections = leaves.connections; strays_are = leaves.strays_are; accepted_is = leaves.accepted_is; added_are = refl });
        logged = λ s seat small has.
            let fits = All-contains (FitsTable libraries) seats seat fit has in
            laws.finishes seats engine.lines.unkept.items engine.accepted at until old left.engine finished was.ready was.taken s seat (subst (λ n. s < n) sessions small) has fits.0 fits.1;
        texts = laws.text_told gathered.board links (keeps.ready before was.ready) (laws.text_gathers seats links at until old.desk gathered finished.gathers was.ready texts);
        answers = laws.text_answers gathered.board links (keeps.ready before was.ready) (laws.text_gathers seats links at until old.desk gathered finished.gathers was.ready texts);
        leases = leases_stand before seats engine.lines.unkept.items engine.accepted at until old left.engine finished taken sessions;
        libraries = libraries_are;
      }
