-- What holds of a run between two lines of its script, and of the record that it leaves.
use Rattle.std.specs.Prelude.{◌≡◌, ◌≢◌, ℕ, ◌+◌, ◌<◌, ◌≤◌, ◌⊎◌, List, [], length, map, slice_get, None, Some}
use Rattle.std.specs.List.{Contains}
use Rattle.engine_config.specs.Config.{dial_of, names_of}
use Rattle.engine_config.specs.declared.config.Config.{Config}
use Rattle.engine_end.specs.Finishing.{GathersAll, after_settling}
use Rattle.engine_end.specs.Records.{IsLeftBy}
use Rattle.engine_laws.specs.Account.{IsAccountedFor}
use Rattle.engine_loop.specs.Engines.{until_of}
use Rattle.engine_loop.specs.declared.engine.Engine.{Engine}
use Rattle.engine_loop.specs.Starts.{configured_book}
use Rattle.gate_io.specs.MemWire.{link_at}
use Rattle.gate_io.specs.Wire.{Link}
use Rattle.lease_core.specs.Lines.{IsShown, lines_of}
use Rattle.lease_core.specs.declared.entry.Entry.{Entry}
use Rattle.lease_core.specs.declared.lease.Line.{Line}
use Rattle.lease_desk.specs.declared.desk.LeaseDesk.{LeaseDesk}
use Rattle.lease_words.specs.Leases.{Each, OthersRest, Stands}
use Rattle.lease_words.specs.Views.{LibraryView, library_at}
use Rattle.lease_words.specs.declared.view.LibrarySession.{LibrarySession}
use Rattle.library_desk.specs.declared.desk.LibraryDesk.{LibraryDesk}
use Rattle.engine_laws.specs.libraries.Feeds.{AreFed}
use Rattle.engine_laws.specs.libraries.Replies.{AreAnswered}
use Rattle.engine_laws.specs.libraries.Sends.{AreLogged, AreTaken}
use Rattle.engine_laws.specs.libraries.Spans.{AllLieWithin}
use Rattle.run_report.specs.declared.records.LibReport.{LibReport}
use Rattle.run_report.specs.declared.records.RunRecord.{RunRecord}
use Rattle.script_run.specs.declared.callers.Caller.{Caller}
use Rattle.script_run.specs.declared.run.Run.{Run}
use Rattle.script_run.specs.Means.{report_of, seat_of}
use Rattle.session_core.specs.State.{State}
use Rattle.switchboard.specs.Board.{Board, book_at, connection_at}
use Rattle.switchboard.specs.Going.{GoesOnTo}
use Rattle.switchboard.specs.Ready.{HasTextOf, IsReady}
use Rattle.engine_laws.specs.texts.Answered.{DialledAreSo}
use Rattle.engine_laws.specs.texts.Taken.{IsCutShort, TookAsAnswered, TookTextOf, TookTheirTexts}

-- the entries before a run: no session has one
abbrev pub no_entries : ℕ → List Entry
no_entries s = []

-- the session machines with which a run of this configuration begins
abbrev pub first_machines : Config → ℕ → State
first_machines config s = (configured_book config.leases (names_of config s) (dial_of config s)).machine

-- Up to a moment all that happened is accounted for. Sessions and connections are ready; each journal tells the acts of what came, each request was answered
-- once, each lease was fed its messages in order and within what its library holds by it, each send that a log has was taken of its library's lane, and the
-- Logon of a dialled connection counts as answered where what was handled of that answers it.
pub record IsAccountedAt (before : ℕ → List Entry) (start : ℕ → State) (moment : ℕ) (d : LibraryDesk) : Type 0 where
  pub ready : IsReady before d.desk.board
  pub account : IsAccountedFor before start moment d.desk.board
  pub answered : AreAnswered before d
  pub fed : AreFed d
  pub within : AllLieWithin d
  pub taken : AreTaken before d.desk
  pub dialled : DialledAreSo d.desk.board

-- a library has the number behind its place, and so has its seat
pub record IsNumbered (place : ℕ) (caller : Caller) : Type 0 where
  pub number : caller.number ≡ place + 1
  pub seat : caller.library.ends.seat.knows.number ≡ place + 1

-- each library is numbered, and there are as many as the engine's table is for
pub record AreNumbered (run : Run) : Type 0 where
  pub count : length run.callers.items ≡ run.engine.sessions.desk.seat.table.shape.libraries
  pub each : (place : ℕ) (caller : Caller) → slice_get run.callers.items place ≡ Some caller → IsNumbered place caller

-- A run is accounted for up to the moment of its last turn, and its connections that have ended took their texts.
pub record IsAccountedRun (before : ℕ → List Entry) (start : ℕ → State) (run : Run) : Type 0 where
  pub engine : IsAccountedAt before start run.engine.moment run.engine.sessions
  pub texts : TookTheirTexts run.engine.sessions.desk.board (link_at run.wire)
  pub libraries : AreNumbered run

-- What a log has for a library's sends, behind the entries before, is all that the library's seat sent, each item's body once and in order.
abbrev pub AllAreLogged : (ℕ → List Entry) → Board → List LibraryView → Type 0
AllAreLogged before board seats =
    (s : ℕ) (seat : LibraryView) → s < length board.sessions → Contains seats seat → AreLogged seat.knows.number (before s) (book_at board s) (library_at seat s).items

-- What a library knows of a session stands in the lines of a journal. Each of its leases does, with its own count of sends and as it gave it back; its other lines,
-- above those that were before its table, have no sends and weren't given back; and each word that it saw is shown.
pub record LeasesStand (base : ℕ) (lines : List Line) (library : ℕ) (known : LibrarySession) : Type 0 where
  pub each : Each (Stands base lines library) known.leases
  pub others : OthersRest base lines library known.leases
  pub words : Each (IsShown lines) known.words

-- and so does all that the libraries' seats know
abbrev pub AllLeasesStand : (ℕ → List Entry) → Board → List LibraryView → Type 0
AllLeasesStand before board seats =
    (s : ℕ) (seat : LibraryView) → s < length board.sessions → Contains seats seat
    → LeasesStand (length (lines_of (before s))) (lines_of (book_at board s).entries) seat.knows.number (library_at seat s)

-- the sessions of an engine, once each was gathered at the end
abbrev pub gathered_of : Engine → LeaseDesk → LibraryDesk
gathered_of engine gathered = record (engine.sessions) { desk = gathered }

-- A connection that has ended took its outbound text, in the words of its session's journal, or its writing was cut short.
abbrev pub TookTextOrCutShort : (ℕ → List Entry) → Board → (ℕ → Link) → ℕ → Type 0
TookTextOrCutShort before board links k = TookTextOf before board k (connection_at board k).session ⊎ IsCutShort (links (connection_at board k).number) (connection_at board k)

-- and so did each
abbrev pub EndedTookTexts : (ℕ → List Entry) → Board → (ℕ → Link) → Type 0
EndedTookTexts before board links = (k : ℕ) → k < length board.connections → (connection_at board k).cause ≢ None → TookTextOrCutShort before board links k

-- and each took it as the answer to its Logon has it
abbrev pub AllTookAsAnswered : (ℕ → List Entry) → Board → (ℕ → Link) → Type 0
AllTookAsAnswered before board links = (s k : ℕ) → k < length board.connections → (told : HasTextOf before board s k) → TookAsAnswered before board links s k told

-- a seat's number is one of the table's
abbrev pub FitsTable : ℕ → LibraryView → Type 0
FitsTable libraries seat = (1 ≤ seat.knows.number) × (seat.knows.number ≤ libraries)

-- What an engine and its libraries leave is accounted for, where these are their seats and reports: once the seats are taken in each session is gathered, by
-- which each log has all that the libraries sent, and each journal all that they did by their leases. Then sessions and connections leave the record.
pub record LeavesAccounted (before : ℕ → List Entry) (start : ℕ → State) (engine : Engine) (links : ℕ → Link) (seats : List LibraryView) (reports : List LibReport) (left : RunRecord) : Type 0 where
  pub gathered : LeaseDesk
  pub gathers : GathersAll engine.moment (until_of engine) (after_settling seats engine.sessions.desk) gathered
  pub goes_on : GoesOnTo engine.sessions.desk.board gathered.board
  pub accounted : IsAccountedAt before start engine.moment (gathered_of engine gathered)
  pub leaves : IsLeftBy gathered.board engine.sessions.strays.items engine.accepted left.engine.added left.engine
  pub logged : AllAreLogged before gathered.board seats
  pub texts : EndedTookTexts before gathered.board links
  pub answers : AllTookAsAnswered before gathered.board links
  pub leases : AllLeasesStand before gathered.board seats
  pub libraries : left.libraries ≡ reports

-- what a run of a script leaves
abbrev pub RunLeavesAccounted : (ℕ → List Entry) → (ℕ → State) → Run → RunRecord → Type 0
RunLeavesAccounted before start run left = LeavesAccounted before start run.engine (link_at run.wire) (map seat_of run.callers.items) (map report_of run.callers.items) left
