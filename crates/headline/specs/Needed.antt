-- What several laws of this crate need of others, told once: each of these records is the clause of a law that only they call.
use Rattle.std.specs.Prelude.{◌≡◌, ◌≢◌, ℕ, ◌<◌, ◌≤◌, List, [], ◌∷◌, ◌++◌, length, Option, None, Some, Result}
use Rattle.std.specs.List.{All, Contains}
use Rattle.engine_end.specs.Finishing.{Finishes}
use Rattle.engine_laws.specs.Account.{IsAccountedFor, IsAside, KeepsAccount, Progress, StaysAccountedFor, all_done, cutting, done, handling, only}
use Rattle.engine_laws.specs.Turns.{EngineStaysAccountedFor}
use Rattle.engine_laws.specs.texts.Taken.{TookTheirTexts}
use Rattle.engine_laws.specs.walks.Walks.{ReadMove, TurnStep, Walk, WriteMove, read_so_far}
use Rattle.engine_loop.specs.Engines.{IsAtWork, IsOnline, until_of}
use Rattle.engine_loop.specs.Turns.{AcceptsNext, AtWire, DialsSession, GivesTurn, MakesTurn, NotesSession, PublishesSession, Reading, ReadsIfStands, ServesOne, Serving, TakesTurn, TicksSession, at_wire, with_moment}
use Rattle.engine_loop.specs.declared.engine.Engine.{Engine}
use Rattle.engine_loop.specs.declared.records.Taken.{Taken}
use Rattle.engine_loop.specs.declared.records.Turn.{Turn}
use Rattle.fix_frame.specs.Cut.{cut}
use Rattle.fix_frame.specs.declared.layout.TheConstants.{LONGEST_FRAME}
use Rattle.gate_io.specs.Wire.{Link, LinkGoesOn}
use Rattle.gate_io.specs.declared.wires.Accepted.{Accepted}
use Rattle.gate_io.specs.declared.wires.WireGot.{WireGot}
use Rattle.headline.specs.runs.Accounted.{FitsTable, IsAccountedAt, LeavesAccounted}
use Rattle.headline.specs.runs.Lives.{AreKept, DesksMeet, IsReportedAs}
use Rattle.headline.specs.runs.Reports.{HandsOn}
use Rattle.lease_core.specs.Laws.{HoldingsAdjoin, LibraryDeedsAreTold, OneOwner}
use Rattle.lease_core.specs.declared.entry.Entry.{Entry}
use Rattle.lease_desk.specs.Desk.{Gathers, InTurn}
use Rattle.lease_desk.specs.declared.desk.LeaseDesk.{LeaseDesk}
use Rattle.lease_words.specs.Views.{LibraryView}
use Rattle.library_api.specs.Calls.{Call}
use Rattle.library_api.specs.Ends.{EndsView}
use Rattle.library_api.specs.Known.{Known}
use Rattle.library_api.specs.Laws.{BeginningsAreInOrder, DeedsAreAnswered, PollsCloseRequests, PollsPop, PostsAreSent, ReadsHaveNoGap, RepliesCloseRequests, RequestsAreNumbered}
use Rattle.library_api.specs.Reads.{notices_of}
use Rattle.library_desk.specs.Happening.{RunsFor}
use Rattle.library_desk.specs.Serving.{Serves}
use Rattle.library_desk.specs.declared.desk.LibraryDesk.{LibraryDesk}
use Rattle.library_desk.specs.declared.serving.LibTurn.{LibTurn}
use Rattle.library_desk.specs.declared.shared.Shared.{Shared}
use Rattle.run_report.specs.declared.calls.Call.{Call as Kept}
use Rattle.run_report.specs.declared.records.LibReport.{LibReport}
use Rattle.run_report.specs.declared.records.RunRecord.{RunRecord}
use Rattle.session_book.specs.Records.{Pending}
use Rattle.session_core.specs.State.{State}
use Rattle.session_core.specs.declared.causes.Cause.{Cause}
use Rattle.session_desk.specs.Steps.{GreetsAs, Hears, parting}
use Rattle.session_desk.specs.declared.routes.Routes.{Routes}
use Rattle.switchboard.specs.Board.{Board, book_at, connection_at}
use Rattle.switchboard.specs.Brought.{HasHandled, good_bodies}
use Rattle.switchboard.specs.Going.{GoesOnTo}
use Rattle.switchboard.specs.Happenings.{Happening, Happens, Reaches, gives, next_pieces, takes}
use Rattle.switchboard.specs.Ready.{IsReady}
use Rattle.switchboard.specs.Sound.{bound_of}
use Rattle.wire_desk.specs.Steps.{HandlesNext, Reads, ReadsAs, Sessions, WritesInTurn, WrittenSoFar}

-- what the law of walks says
abbrev pub WalkLaws : Type 0
WalkLaws = record {
  takes : (reading : ℕ) (old new : AtWire) (taken : Taken) → TakesTurn reading old new taken → Walk TurnStep (at_wire (with_moment reading old.engine) old.door old.links) new;
  gives : (old new : AtWire) (taken : Taken) (turn : Turn) → GivesTurn old new taken turn → Walk TurnStep old new;
  turn : (reading : ℕ) (old new : AtWire) (turn : Turn) → MakesTurn reading old new turn → Walk TurnStep (at_wire (with_moment reading old.engine) old.door old.links) new;
  handles : (routes : Routes) (k at until count : ℕ) (old new : Sessions) → InTurn (λ i. HandlesNext routes k at until) count old new
      → Walk (ReadMove routes k at until) (read_so_far cutting old.desk) (read_so_far cutting new.desk);
  reads_as : (answer : WireGot) (routes : Routes) (k : ℕ) (buffer : List ℕ) (at until : ℕ) (old new : Sessions) → ReadsAs answer routes k buffer at until old new
      → Walk (ReadMove routes k at until) (read_so_far done old.desk) (read_so_far done new.desk);
  reads : (answer : WireGot) (routes : Routes) (k : ℕ) (buffer : List ℕ) (at until : ℕ) (old new : Sessions) → Reads answer routes k buffer at until old new
      → Walk (ReadMove routes k at until) (read_so_far done old.desk) (read_so_far done new.desk);
  writes : (places : List ℕ) (count : ℕ) (old new : WrittenSoFar) → WritesInTurn places count old new → Walk WriteMove old.sessions.desk new.sessions.desk;
}

-- what the laws of accounts say: of happenings, of what a session does, of the engine's steps, and of the way in which a turn is made
pub record AccountLaws : Type 0 where
  pub walks : WalkLaws
  pub itself : (progress : ℕ → Progress) (at : ℕ) (board : Board) → KeepsAccount progress progress at board board
  pub aside : (progress : ℕ → Progress) (at : ℕ) (happenings : List Happening) (old new : Board) → All (IsAside at) happenings → Reaches happenings old new → KeepsAccount progress progress at old new
  pub takes : (k : ℕ) (bytes : List ℕ) (at : ℕ) (old new : Board) → Happens (takes k bytes) old new → KeepsAccount all_done (only k cutting) at old new
  pub gives_none : (k at : ℕ) (old new : Board) → Happens (gives k) old new → good_bodies (next_pieces (connection_at old k)) ≡ [] → KeepsAccount (only k cutting) (only k cutting) at old new
  pub gives_one : (k at : ℕ) (body : List ℕ) (old new : Board) → Happens (gives k) old new → good_bodies (next_pieces (connection_at old k)) ≡ body ∷ [] → KeepsAccount (only k cutting) (only k (handling body)) at old new
  pub gives_last : (k at : ℕ) (old new : Board) → Happens (gives k) old new → next_pieces (connection_at old k) ≡ [] → KeepsAccount (only k cutting) all_done at old new
  pub stops : (k at : ℕ) (board : Board) → (connection_at board k).cause ≢ None → KeepsAccount (only k cutting) all_done at board board
  pub gathers : (progress : ℕ → Progress) (s at until : ℕ) (old new : LeaseDesk) → Gathers s at until old new → KeepsAccount progress progress at old.board new.board
  pub hears : (s k : ℕ) (body : List ℕ) (at until : ℕ) (old new : LeaseDesk) (unkept_old unkept_new : List Pending) (end : Option Cause) → Hears s k body at until old new unkept_old unkept_new end
      → KeepsAccount (only k (handling body)) (only k cutting) at old.board new.board
  pub greets : (found : Result ℕ Cause) (k : ℕ) (body : List ℕ) (at until : ℕ) (old new : LeaseDesk) (unkept_old unkept_new : List Pending) (end : Option Cause)
      → GreetsAs found k body at until old new unkept_old unkept_new end → KeepsAccount (only k (handling body)) (only k cutting) at old.board new.board
  pub parts : (session : Option ℕ) (k : ℕ) (cause : Cause) (at : ℕ) (old new : Board) → Happens (parting session k cause) old new → StaysAccountedFor at old new
  pub accepts : (answer : Accepted) (old new : AtWire) → AcceptsNext answer old new → EngineStaysAccountedFor old.engine new.engine
  pub dials : (s : ℕ) (old new : AtWire) → DialsSession s old new → EngineStaysAccountedFor old.engine new.engine
  pub reads : (k : ℕ) (old new : Reading) → ReadsIfStands k old new → EngineStaysAccountedFor old.engine new.engine
  pub ticks : (s : ℕ) (old new : Engine) → TicksSession s old new → EngineStaysAccountedFor old new
  pub serves : (library : ℕ) (old new : Serving) → ServesOne library old new → EngineStaysAccountedFor old.engine new.engine
  pub notes : (s : ℕ) (old new : Engine) → NotesSession s old new → EngineStaysAccountedFor old new
  pub publishes : (s : ℕ) (old new : Engine) → PublishesSession s old new → EngineStaysAccountedFor old new
  pub serving : (library at until : ℕ) (old new : LibraryDesk) (turn : LibTurn) → Serves library at until old new turn → RunsFor at old.desk.board new.desk.board

-- what the laws of boards and of serving say
pub record GoingLaws : Type 0 where
  pub walks : WalkLaws
  pub itself : (board : Board) → GoesOnTo board board
  pub further : (first second third : Board) → GoesOnTo first second → GoesOnTo second third → GoesOnTo first third
  pub runs : (happenings : List Happening) (old new : Board) → Reaches happenings old new → GoesOnTo old new
  pub joins : (first second : List Happening) (old between new : Board) → Reaches first old between → Reaches second between new → Reaches (first ++ second) old new
  pub serves : (library at until : ℕ) (old new : LibraryDesk) (turn : LibTurn) → Serves library at until old new turn → RunsFor at old.desk.board new.desk.board

-- those of engines and texts, beside them
pub record RunLaws (before : ℕ → List Entry) (start : ℕ → State) : Type 0 where
  pub going : GoingLaws
  pub turn : (reading : ℕ) (old new : AtWire) (turn : Turn) → MakesTurn reading old new turn → IsAccountedAt before start old.engine.moment old.engine.sessions → IsAccountedAt before start new.engine.moment new.engine.sessions
  pub meets : (moment library : ℕ) (old new : LibraryDesk) (ends_old ends_new : EndsView) → DesksMeet library old new ends_old ends_new → IsAccountedAt before start moment old → IsAccountedAt before start moment new
  pub leaves : (engine : Engine) (links : ℕ → Link) (seats : List LibraryView) (reports : List LibReport) (left : RunRecord)
      → Finishes seats engine.lines.unkept.items engine.accepted engine.moment (until_of engine) engine.sessions left.engine → left.libraries ≡ reports
      → IsAccountedAt before start engine.moment engine.sessions → TookTheirTexts engine.sessions.desk.board links → All (FitsTable engine.sessions.desk.seat.table.shape.libraries) seats
      → LeavesAccounted before start engine links seats reports left
  pub text_turn : (shared : Shared) (reading : ℕ) (old new : AtWire) (turn : Turn) → MakesTurn reading old new turn → IsAtWork shared old.engine → IsOnline old.engine old.door old.links
      → IsReady before old.engine.sessions.desk.board → TookTheirTexts old.engine.sessions.desk.board old.links → TookTheirTexts new.engine.sessions.desk.board new.links
  pub text_known : (board : Board) (old new : ℕ → Link) → ((c : ℕ) → LinkGoesOn (old c) (new c)) → TookTheirTexts board old → TookTheirTexts board new

-- those of what a library's calls come to
pub record ApiLaws : Type 0 where
  pub polls_pop : PollsPop
  pub polls_close : PollsCloseRequests
  pub closed : RepliesCloseRequests
  pub deeds_are_answered : DeedsAreAnswered
  pub posts_are_sent : PostsAreSent
  pub no_gap : ReadsHaveNoGap
  pub beginnings : BeginningsAreInOrder
  pub numbered : RequestsAreNumbered

-- what the law of whole accounts says of one
pub record WholeLaws : Type 0 where
  pub stands : (before : ℕ → List Entry) (start : ℕ → State) (at : ℕ) (board : Board) (accounted : IsAccountedFor before start at board) (k : ℕ) → k < length board.connections
      → (connection_at board k).cause ≡ None → (accounted.brought k).pieces ≡ (cut LONGEST_FRAME (connection_at board k).taken).pieces
  pub named : (before : ℕ → List Entry) (start : ℕ → State) (at : ℕ) (board : Board) (accounted : IsAccountedFor before start at board) (k s : ℕ) → k < length board.connections
      → (connection_at board k).session ≡ Some s
      → HasHandled (bound_of (book_at board s)) (connection_at board k).number (good_bodies (accounted.brought k).pieces) (accounted.history.handled s)
  pub unbound : (before : ℕ → List Entry) (start : ℕ → State) (at : ℕ) (board : Board) (accounted : IsAccountedFor before start at board) (k : ℕ) → k < length board.connections
      → (connection_at board k).session ≡ None → length (good_bodies (accounted.brought k).pieces) ≤ 1
  pub waiting : (before : ℕ → List Entry) (start : ℕ → State) (at : ℕ) (board : Board) (accounted : IsAccountedFor before start at board) (k : ℕ) → k < length board.connections
      → (connection_at board k).session ≡ None → (connection_at board k).cause ≡ None → good_bodies (accounted.brought k).pieces ≡ []

-- what is told of the deeds of libraries
pub record LibraryLaws : Type 0 where
  pub pops : PollsPop
  pub lines_tell : LibraryDeedsAreTold
  pub handed : (k : Known) (made : List Call) (kept : List Kept) → AreKept IsReportedAs k made kept → All (HandsOn (Contains (notices_of k made))) kept

-- and of accounts, journals and libraries
pub record HeadlineLaws : Type 0 where
  pub accounts : WholeLaws
  pub one_owner : OneOwner
  pub holdings : HoldingsAdjoin
  pub libraries : LibraryLaws
