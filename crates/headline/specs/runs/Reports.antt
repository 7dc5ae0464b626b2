-- What a library's report says, and that the sessions' journals and logs at the end of its run bear it out.
use Rattle.std.specs.Prelude.{◌≡◌, ◌⊎◌, ℕ, ◌+◌, ◌-◌, ◌<◌, ◌≤◌, ◌==◌, if◌then◌else◌, List, [], ◌∷◌, ◌++◌, length, map, slice_get, Some, Ok, Err}
use Rattle.std.specs.List.{All, Contains, flat_map}
use Rattle.lease_core.specs.declared.entry.Entry.{Entry}
use Rattle.lease_core.specs.Lines.{IsShown, lines_of}
use Rattle.lease_core.specs.declared.lease.Ending.TheVariants.{GivenBack}
use Rattle.lease_core.specs.declared.lease.Line.{Line}
use Rattle.lease_core.specs.declared.messages.Notice.{Notice}
use Rattle.lease_core.specs.declared.messages.Notice.TheVariants as notices
use Rattle.library_api.specs.Calls.{numbers_to}
use Rattle.library_api.specs.Known.{reading_count}
use Rattle.library_api.specs.Posts.{Post}
use Rattle.library_api.specs.Reads.{numbers_from, read_by}
use Rattle.library_api.specs.Replies.{reply_count}
use Rattle.library_api.specs.declared.event.Event.{Event}
use Rattle.library_api.specs.declared.event.Event.TheVariants as events
use Rattle.library_desk.specs.declared.desk.LibraryDesk.{LibraryDesk}
use Rattle.library_desk.specs.declared.desk.Stray.{Stray}
use Rattle.engine_laws.specs.libraries.Replies.{Ask, answered_by, replies_told, reply_of, stray_told}
use Rattle.engine_laws.specs.libraries.Sends.{logged_bodies}
use Rattle.engine_laws.specs.libraries.Spans.{LiesWithin}
use Rattle.message_log.specs.declared.entry.OutEntry.{OutEntry}
use Rattle.headline.specs.runs.Deeds.{deeds_in_lines, deeds_kept, words_kept}
use Rattle.headline.specs.runs.Lives.{IsLifeAt, Life}
use Rattle.headline.specs.runs.Sides.{Begins}
use Rattle.run_report.specs.declared.calls.Call.{Call as Kept}
use Rattle.run_report.specs.declared.calls.Call.TheVariants as calls
use Rattle.run_report.specs.declared.records.LibReport.{LibReport}
use Rattle.session_book.specs.Book.{Book}
use Rattle.session_book.specs.Sends.{AreSendsOf}
use Rattle.switchboard.specs.Board.{Board, book_at}

-- what was sent of a session, by which lease, where a call was answered Sent
abbrev pub post_kept : ℕ → Kept → List Post
post_kept s (calls.Send t body (Ok sent)) = if t == s then record { lease = sent.lease; body = body } ∷ [] else []
post_kept s (calls.Send t body (Err why)) = []
post_kept s (calls.Request t from answer) = []
post_kept s (calls.Poll event) = []
post_kept s (calls.Release t answer) = []
post_kept s (calls.Hand t heir answer) = []
post_kept s calls.Beat = []

abbrev pub posts_kept : ℕ → List Kept → List Post
posts_kept s kept = flat_map (post_kept s) kept

-- the request that a call made, by its number and its session
abbrev pub ask_kept : Kept → List Ask
ask_kept (calls.Request s from (Ok nr)) = record { nr = nr; s = s } ∷ []
ask_kept (calls.Request s from (Err why)) = []
ask_kept (calls.Poll event) = []
ask_kept (calls.Send s body answer) = []
ask_kept (calls.Release s answer) = []
ask_kept (calls.Hand s heir answer) = []
ask_kept calls.Beat = []

abbrev pub asks_kept : List Kept → List Ask
asks_kept kept = flat_map ask_kept kept

-- the position of a lease's message, where a poll gave one
abbrev pub position_kept : ℕ → ℕ → Kept → List ℕ
position_kept s lease (calls.Poll event) = read_by s lease event
position_kept s lease (calls.Send t body answer) = []
position_kept s lease (calls.Request t from answer) = []
position_kept s lease (calls.Release t answer) = []
position_kept s lease (calls.Hand t heir answer) = []
position_kept s lease calls.Beat = []

abbrev pub positions_kept : ℕ → ℕ → List Kept → List ℕ
positions_kept s lease kept = flat_map (position_kept s lease) kept

-- a fact of the notice that an event hands on, where it hands one on
abbrev pub OnNotice : (Notice → Type 0) → Event → Type 0
OnNotice P (events.Granted nr s lease from start) = P (notices.Granted nr s lease from start)
OnNotice P (events.Refused nr s why) = P (notices.Refused nr s why)
OnNotice P (events.Message s lease pos bytes) = P (notices.Message s lease pos bytes)
OnNotice P events.Nothing = Unit {0}
OnNotice P (events.NotYet s pos published) = Unit {0}
OnNotice P (events.Stale s lease pos) = Unit {0}
OnNotice P (events.LeaseLost s lease seen) = Unit {0}

-- and where a kept call is a poll with such an event
abbrev pub HandsOn : (Notice → Type 0) → Kept → Type 0
HandsOn P (calls.Poll event) = OnNotice P event
HandsOn P (calls.Send t body answer) = Unit {0}
HandsOn P (calls.Request t from answer) = Unit {0}
HandsOn P (calls.Release t answer) = Unit {0}
HandsOn P (calls.Hand t heir answer) = Unit {0}
HandsOn P calls.Beat = Unit {0}

-- the reply of a session to this library is one that its journal tells, and that of a session which isn't configured is a stray
abbrev pub IsReplyTold : Board → List Stray → ℕ → ℕ → Notice → Type 0
IsReplyTold board strays library s reply =
    (s < length board.sessions → Contains (replies_told library s (book_at board s).entries) reply) × (length board.sessions ≤ s → Contains (flat_map (stray_told library) strays) reply)

-- A notice is told: a reply by the journal or the strays, and a message by its session's inbound log, which has it at its position.
abbrev pub IsTold : Board → List Stray → ℕ → Notice → Type 0
IsTold board strays library (notices.Granted nr s lease from start) = IsReplyTold board strays library s (notices.Granted nr s lease from start)
IsTold board strays library (notices.Refused nr s why) = IsReplyTold board strays library s (notices.Refused nr s why)
IsTold board strays library (notices.Message s lease pos bytes) = slice_get (book_at board s).inbound pos ≡ Some bytes

-- what a session's outbound log has for a library's sends, behind the entries before, has the bodies of these posts, each once and in order
pub record ArePostsLogged (library : ℕ) (before : List Entry) (book : Book) (posts : List Post) : Type 0 where
  pub sends : List OutEntry
  pub sends_are : AreSendsOf library before sends book
  pub bodies : logged_bodies sends ≡ map (λ post. post.body) posts

-- The positions of a lease's messages follow one another without a gap from the one on that its grant names, and the grant is among these replies.
pub record AreFromGrant (replies : List Notice) (s lease : ℕ) (positions : List ℕ) : Type 0 where
  pub nr : ℕ
  pub from : ℕ
  pub start : ℕ
  pub told : Contains replies (notices.Granted nr s lease from start)
  pub are : positions ≡ numbers_from from (length positions)

-- A lease that was given back stands so among a session's lines of leases: it was the library's, made so many sends, and was given to this heir, or to nobody.
pub record IsGivenBack (lines : List Line) (library lease count heir : ℕ) : Type 0 where
  pub line : Line
  pub at : slice_get lines (lease - 1) ≡ Some line
  pub whose : line.library ≡ library
  pub sends : line.sends ≡ count
  pub ended : line.ending ≡ GivenBack heir

-- and where a kept call gave a lease back, it does in that session's journal
abbrev pub GivesBack : Board → ℕ → Kept → Type 0
GivesBack board library (calls.Release s (Ok released)) = s < length board.sessions → IsGivenBack (lines_of (book_at board s).entries) library released.lease released.count 0
GivesBack board library (calls.Hand s heir (Ok released)) = s < length board.sessions → IsGivenBack (lines_of (book_at board s).entries) library released.lease released.count heir
GivesBack board library (calls.Release s (Err why)) = Unit {0}
GivesBack board library (calls.Hand s heir (Err why)) = Unit {0}
GivesBack board library (calls.Poll event) = Unit {0}
GivesBack board library (calls.Send s body answer) = Unit {0}
GivesBack board library (calls.Request s from answer) = Unit {0}
GivesBack board library calls.Beat = Unit {0}

-- The replies of a session among these notices are the first ones that its journal tells this library behind the entries before, in order.
pub record AreRepliesTold (library s : ℕ) (before entries : List Entry) (popped : List Notice) : Type 0 where
  pub rest : List Notice
  pub are : replies_told library s entries ≡ replies_told library s before ++ (flat_map (reply_of s) popped ++ rest)

-- What a library's report says is so. Each send that was answered Sent is logged, and no other is, and each lease that was given back stands so. Where no lease was
-- before, what its calls did is all that the lines tell of it, in order; and each word by which a call found a lease lost is shown by them. Of each lease
-- the messages that polls gave have the positions from that on which the journal's grant names, one behind another without a gap; and each reply and each
-- message that a poll gave is told, a message also below the end of what the library held by its lease.
pub record IsBorneOut (before : ℕ → List Entry) (board : Board) (strays : List Stray) (report : LibReport) : Type 0 where
  pub sends : (s : ℕ) → s < length board.sessions → ArePostsLogged report.number (before s) (book_at board s) (posts_kept s report.calls)
  pub given_back : All (GivesBack board report.number) report.calls
  pub deeds : (s : ℕ) → s < length board.sessions → lines_of (before s) ≡ [] → deeds_in_lines report.number (lines_of (book_at board s).entries) ≡ deeds_kept s report.calls
  pub words : (s : ℕ) → s < length board.sessions → All (IsShown (lines_of (book_at board s).entries)) (words_kept s report.calls)
  pub reads : (s lease : ℕ) → 0 < lease → s < reading_count → s < length board.sessions → (positions_kept s lease report.calls ≡ [])
      ⊎ AreFromGrant (replies_told report.number s (book_at board s).entries) s lease (positions_kept s lease report.calls)
  pub told : All (HandsOn (IsTold board strays report.number)) report.calls
  pub within : All (HandsOn (LiesWithin board report.number)) report.calls

-- The requests that a library's calls made have the numbers 1, 2 and so on. The replies that it popped are those of its first requests, in order, by number and
-- session, and at most the last request has none. It was told the replies of each session in the order in which its journal tells them.
pub record IsRepliedAtEnd (before : ℕ → List Entry) (board : Board) (life : Life) : Type 0 where
  pub numbers : map (λ (ask : Ask). ask.nr) (asks_kept life.calls) ≡ numbers_to life.library.asked
  pub answers : Begins (flat_map answered_by life.library.ends.head.popped) (asks_kept life.calls)
  pub few : life.library.asked ≤ reply_count life.library + 1
  pub replies : (s : ℕ) → s < length board.sessions → AreRepliesTold life.number s (before s) (book_at board s).entries life.library.ends.head.popped

-- What is reported of a library at its place is what it did, as the run ends, and is borne out.
pub record IsReported (requests : ℕ) (before : ℕ → List Entry) (board : Board) (d : LibraryDesk) (place : ℕ) (report : LibReport) : Type 0 where
  pub life : Life
  pub is : IsLifeAt requests d place life
  pub number : report.number ≡ life.number
  pub calls : report.calls ≡ life.calls
  pub replied : IsRepliedAtEnd before board life
  pub borne_out : IsBorneOut before board d.strays.items report
