-- How a run ends: the libraries' seats are taken in, each session is gathered once more, and what the run leaves is handed out.
use Rattle.std.specs.Prelude.{◌≡◌, ℕ, zero, suc, ◌<◌, ◌⊎◌, List, [], ◌++◌, length, map, reverse}
use Rattle.engine_end.specs.Records.{IsLeftBy}
use Rattle.engine_end.specs.declared.records.EngineRecord.{EngineRecord}
use Rattle.lease_core.specs.declared.record.Record.{Record}
use Rattle.lease_desk.specs.Desk.{AllAgree, Gathers, InTurn, Rests}
use Rattle.lease_desk.specs.declared.desk.LeaseDesk.{LeaseDesk}
use Rattle.lease_words.specs.Facts.{OthersTaken}
use Rattle.lease_words.specs.Leases.{Each}
use Rattle.lease_words.specs.Tells.{IsSettled}
use Rattle.lease_words.specs.Views.{LibraryView, engine_at}
use Rattle.lease_words.specs.declared.view.LibraryKnows.{LibraryKnows}
use Rattle.library_desk.specs.declared.desk.LibraryDesk.{LibraryDesk}
use Rattle.session_book.specs.Records.{Pending, after_note, new_records}
use Rattle.session_desk.specs.Steps.{pending_at}
use Rattle.switchboard.specs.Board.{Board, book_at}

-- what the libraries knew whose seats are taken in one after another: that of the last one stands first
abbrev pub settled_behind : List LibraryView → List LibraryKnows → List LibraryKnows
settled_behind seats settled = map (λ seat. seat.knows) (reverse seats) ++ settled

-- the engine's seat has taken in those of the libraries
abbrev pub after_settling : List LibraryView → LeaseDesk → LeaseDesk
after_settling seats desk = record desk { seat = record (desk.seat) { settled = settled_behind seats desk.seat.settled } }

-- each session is gathered, in the order of their numbers
abbrev pub GathersAll : ℕ → ℕ → LeaseDesk → LeaseDesk → Type 0
GathersAll at until old new = InTurn (λ s. Gathers s at until) (length old.board.sessions) old new

-- So many sessions are gathered, and then memory is wanting: of the next one nothing changes but for how much more there is room.
pub record GathersSome (at until : ℕ) (old new : LeaseDesk) : Type 0 where
  pub count : ℕ
  pub few : count < length old.board.sessions
  pub between : LeaseDesk
  pub gathers : InTurn (λ s. Gathers s at until) count old between
  pub rests : Rests count between new

-- the records of a session's entries that weren't handed out, also of those that weren't noted
abbrev pub records_at : Board → List Pending → ℕ → List Record
records_at board unkept s = new_records s (book_at board s) (after_note (book_at board s) (pending_at unkept s))

-- those of the first sessions, by session
abbrev pub records_of : Board → List Pending → ℕ → List Record
records_of board unkept zero = []
records_of board unkept (suc s) = records_of board unkept s ++ records_at board unkept s

abbrev pub all_records : Board → List Pending → List Record
all_records board unkept = records_of board unkept (length board.sessions)

-- Of a session the engine's seat has all that each library did of it whose seat was taken in, and of the others than the last lease's all was taken.
pub record HasAllOf (desk : LeaseDesk) (s : ℕ) : Type 0 where
  pub settled : Each (IsSettled s (engine_at desk.seat s)) desk.seat.settled
  pub others : OthersTaken desk.seat.table.shape.libraries (engine_at desk.seat s)

-- Each session is gathered: its journal tells all that the libraries did whose seats were taken in. What sessions and connections then leave is handed out, with the
-- records of the new entries.
pub record FinishesFrom (unkept : List Pending) (accepted at until : ℕ) (old : LibraryDesk) (left : EngineRecord) : Type 0 where
  pub gathered : LeaseDesk
  pub gathers : GathersAll at until old.desk gathered
  pub agree : AllAgree gathered.board gathered.seat
  pub settled : (s : ℕ) → s < length old.desk.board.sessions → HasAllOf gathered s
  pub leaves : IsLeftBy gathered.board old.strays.items accepted (all_records gathered.board unkept) left

-- Where memory is wanting, no session is gathered, or some are, or all, and there is no record of a new entry.
pub record FinishesShortFrom (accepted at until : ℕ) (old : LibraryDesk) (left : EngineRecord) : Type 0 where
  pub gathered : LeaseDesk
  pub gathers : (gathered ≡ old.desk) ⊎ (GathersAll at until old.desk gathered ⊎ GathersSome at until old.desk gathered)
  pub agree : AllAgree gathered.board gathered.seat
  pub leaves : IsLeftBy gathered.board old.strays.items accepted [] left

-- the libraries' seats are taken in before
abbrev pub with_seats : List LibraryView → LibraryDesk → LibraryDesk
with_seats seats d = record d { desk = after_settling seats d.desk }

abbrev pub Finishes : List LibraryView → List Pending → ℕ → ℕ → ℕ → LibraryDesk → EngineRecord → Type 0
Finishes seats unkept accepted at until old left = FinishesFrom unkept accepted at until (with_seats seats old) left

abbrev pub FinishesShort : List LibraryView → ℕ → ℕ → ℕ → LibraryDesk → EngineRecord → Type 0
FinishesShort seats accepted at until old left = FinishesShortFrom accepted at until (with_seats seats old) left
