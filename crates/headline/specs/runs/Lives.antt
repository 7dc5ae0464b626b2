-- What a library of a run did since it began: its calls, and its meetings with the engine.
use Rattle.std.specs.Prelude.{◌≡◌, ◌⊎◌, ℕ, ◌+◌, ◌≤◌, Bool, true, List, [], ◌∷◌, ◌++◌, length, slice_get, Some, Result, Ok, Err}
use Rattle.std.specs.List.{All, flat_map}
use Rattle.engine_end.specs.Meeting.{RingsMeet, SeatsMeet}
use Rattle.lease_core.specs.declared.messages.Command.{Command}
use Rattle.lease_words.specs.Views.{library_at, no_library_session}
use Rattle.library_api.specs.Calls.{AreLawful, Call, after_call, after_calls, asks, beats, gives_back, hand_refused, is_done, meets, polls, release_refused, send_refused, sends}
use Rattle.library_api.specs.Ends.{EndsView}
use Rattle.library_api.specs.Known.{Known, held, new_library, sends_made}
use Rattle.library_api.specs.Polls.{event_of}
use Rattle.library_api.specs.Replies.{AreReplies, HoldsThroughout}
use Rattle.library_desk.specs.declared.desk.LibraryDesk.{LibraryDesk}
use Rattle.library_desk.specs.declared.ends.EngineEnds.{EngineEnds}
use Rattle.serve_run.specs.Lines.{has_no_room, is_idle_poll}
use Rattle.ring_links.specs.declared.queue.Full.{Full}
use Rattle.script_run.specs.declared.callers.Caller.{Caller}
use Rattle.script_run.specs.declared.run.Run.{Run}
use Rattle.engine_laws.specs.libraries.Replies.{answered_by, asked_by}
use Rattle.headline.specs.runs.Deeds.{AreRising, IsKnownWord, words_kept}
use Rattle.headline.specs.runs.Sides.{Begins}
use Rattle.run_report.specs.declared.calls.Call.{Call as Kept}
use Rattle.run_report.specs.declared.calls.Call.TheVariants as calls

-- A library as a run has it: its number, what it knows, and its calls that are kept, with their answers.
pub record Life : Type 0 where
  pub number : ℕ
  pub library : Known
  pub calls : List Kept

-- a library of a script
abbrev pub life_of : Caller → Life
life_of caller = record { number = caller.number; library = caller.library; calls = caller.calls.items }

-- What a script keeps of a call is the call with its answer, and of a meeting nothing. No library of a script says that all is done.
abbrev pub IsKeptAs : Known → Call → List Kept → Type 0
IsKeptAs k (asks s from taken answer) kept = kept ≡ calls.Request s from answer ∷ []
IsKeptAs k (polls o) kept = kept ≡ calls.Poll (event_of k o) ∷ []
IsKeptAs k (sends s taken body items) kept = kept ≡ calls.Send s body (Ok (record { lease = held k s; ordinal = sends_made k s + 1 })) ∷ []
IsKeptAs k (send_refused s taken why) kept = (body : List ℕ) × (kept ≡ calls.Send s body (Err why) ∷ [])
IsKeptAs k (gives_back s heir owner) kept =
    ((heir ≡ 0) × (kept ≡ calls.Release s (Ok (record { lease = held k s; count = sends_made k s })) ∷ []))
    ⊎ (kept ≡ calls.Hand s heir (Ok (record { lease = held k s; count = sends_made k s })) ∷ [])
IsKeptAs k (release_refused s why) kept = kept ≡ calls.Release s (Err why) ∷ []
IsKeptAs k (hand_refused s why) kept = (heir : ℕ) × (kept ≡ calls.Hand s heir (Err why) ∷ [])
IsKeptAs k beats kept = kept ≡ calls.Beat ∷ []
IsKeptAs k (is_done finished taken answer) kept = ⊥
IsKeptAs k (meets ends) kept = kept ≡ []

-- A call was made in vain that is made again: a poll found nothing to take up, or there was no room.
abbrev pub IsInVain : Kept → Type 0
IsInVain call = (is_idle_poll call ≡ true) ⊎ (has_no_room call ≡ true)

-- Nothing is kept of it.
pub record IsLeftOut (k : Known) (call : Call) (kept : List Kept) : Type 0 where
  pub one : Kept
  pub is : IsKeptAs k call (one ∷ [])
  pub vain : IsInVain one
  pub none : kept ≡ []

-- The word that all is done was pushed, or found no room, of which nothing is kept.
pub record TellsEnd (call : Call) (kept : List Kept) : Type 0 where
  pub finished : Bool
  pub taken : ℕ
  pub answer : Result (Unit {0}) (Full Command)
  pub is : call ≡ is_done finished taken answer
  pub none : kept ≡ []

-- What a plan reports of a call is the call with its answer, unless it was made in vain or said that all is done.
abbrev pub IsReportedAs : Known → Call → List Kept → Type 0
IsReportedAs k call kept = IsKeptAs k call kept ⊎ (IsLeftOut k call kept ⊎ TellsEnd call kept)

-- These are kept so of calls, one behind another.
abbrev pub AreKept : (Known → Call → List Kept → Type 0) → Known → List Call → List Kept → Type 0
AreKept Keeps k [] kept = kept ≡ []
AreKept Keeps k (call ∷ made) kept = (first : List Kept) × (rest : List Kept) × (kept ≡ first ++ rest) × Keeps k call first × AreKept Keeps (after_call k call) made rest

-- A seat keeps its number and as many sessions.
pub record SeatStays (old new : Known) : Type 0 where
  pub number : new.ends.seat.knows.number ≡ old.ends.seat.knows.number
  pub sessions : length new.ends.seat.knows.sessions ≡ length old.ends.seat.knows.sessions

-- The engine's desk and the ends of a library, by its number, meet.
pub record DesksMeet (library : ℕ) (old new : LibraryDesk) (ends_old ends_new : EndsView) : Type 0 where
  pub from_one : 1 ≤ library
  pub seats : SeatsMeet old.desk.seat new.desk.seat ends_old.seat ends_new.seat
  pub rings : RingsMeet library old new ends_old.tail ends_new.tail ends_old.head ends_new.head
  pub rest : new ≡ record old { desk = record (old.desk) { seat = new.desk.seat }; ends = new.ends }

-- ends at which nothing was done yet
pub record AreUnused (ends : EndsView) : Type 0 where
  pub sessions : (s : ℕ) → library_at ends.seat s ≡ no_library_session
  pub pushed : ends.tail.pushed ≡ []
  pub popped : ends.head.popped ≡ []

-- A library began with ends at which nothing was done. These calls, in order and each as its clauses say, led it to what it knows; and the run kept them so. Of each
-- session its leases rose, and it knows each word by which a kept call found one lost.
pub record HasLived (Keeps : Known → Call → List Kept → Type 0) (requests : ℕ) (life : Life) : Type 0 where
  pub first : EndsView
  pub unused : AreUnused first
  pub made : List Call
  pub lawful : AreLawful (new_library first requests) made
  pub known : life.library ≡ after_calls (new_library first requests) made
  pub kept : AreKept Keeps (new_library first requests) made life.calls
  pub rising : (s : ℕ) → AreRising (library_at life.library.ends.seat s).leases
  pub words : (s : ℕ) → All (IsKnownWord (library_at life.library.ends.seat s)) (words_kept s life.calls)

-- Before its first call and behind each the replies that it popped have the numbers 1, 2 and so on of its requests.
abbrev pub IsRepliedInOrder : (requests : ℕ) (life : Life) → HasLived IsKeptAs requests life → Type 0
IsRepliedInOrder requests life lived = HoldsThroughout AreReplies (new_library lived.first requests) lived.made

-- What a library popped begins what the engine pushed to it, at its place, and what the engine had popped at their last meeting begins what the library pushed.
-- The replies that the library popped are those of its requests, in order, by number and session.
pub record IsServedAt (ends : List EngineEnds) (place : ℕ) (life : Life) : Type 0 where
  pub side : EngineEnds
  pub found : slice_get ends place ≡ Some side
  pub popped : Begins life.library.ends.head.popped side.tail.pushed
  pub heard : List Command
  pub asked : Begins heard life.library.ends.tail.pushed
  pub kept : Begins heard side.head.popped
  pub answers : Begins (flat_map answered_by life.library.ends.head.popped) (flat_map asked_by life.library.ends.tail.pushed)

-- A library of a script has lived and was replied to in order, with the number behind its place and at a seat for no more sessions than the engine's table has,
-- and was served at its place.
pub record IsLibraryOf (requests : ℕ) (d : LibraryDesk) (place : ℕ) (life : Life) : Type 0 where
  pub number : life.number ≡ place + 1
  pub lived : HasLived IsKeptAs requests life
  pub replied : IsRepliedInOrder requests life lived
  pub seat : length life.library.ends.seat.knows.sessions ≤ d.desk.seat.table.shape.sessions
  pub served : IsServedAt d.ends.items place life

-- and so has each
abbrev pub HaveLived : ℕ → Run → Type 0
HaveLived requests run = (place : ℕ) (caller : Caller) → slice_get run.callers.items place ≡ Some caller → IsLibraryOf requests run.engine.sessions place (life_of caller)

-- A library as a run ends, however it was driven: it has lived, with the number behind its place, which its seat has too, and was served at its place.
pub record IsLifeAt (requests : ℕ) (d : LibraryDesk) (place : ℕ) (life : Life) : Type 0 where
  pub number : life.number ≡ place + 1
  pub seat : life.library.ends.seat.knows.number ≡ place + 1
  pub lived : HasLived IsReportedAs requests life
  pub served : IsServedAt d.ends.items place life
