-- What is pushed to a library of the sessions that it has: of each lease its grant, and then the log from there on.
use Rattle.std.specs.Prelude.{◌≡◌, ℕ, ◌-◌, ◌<◌, ◌≤◌, List, [], ◌∷◌, length, slice_get, Option, None, Some}
use Rattle.std.specs.List.{All}
use Rattle.catchup_pump.specs.declared.cursor.Cursor.{Cursor}
use Rattle.lease_core.specs.Lines.{lines_of}
use Rattle.lease_core.specs.declared.messages.Notice.{Notice}
use Rattle.lease_core.specs.declared.messages.Notice.TheVariants.{Granted, Message, Refused}
use Rattle.lease_desk.specs.Desk.{owner_at}
use Rattle.library_api.specs.Reads.{AreInOrder, concerns, next_after}
use Rattle.library_desk.specs.Serving.{cursor_at}
use Rattle.library_desk.specs.declared.desk.LibraryDesk.{LibraryDesk}
use Rattle.library_desk.specs.declared.ends.EngineEnds.{EngineEnds}
use Rattle.switchboard.specs.Board.{Board, book_at}

-- the position that comes next of a lease's messages behind these notices, once it was granted
abbrev pub next_over : ℕ → ℕ → Option ℕ → List Notice → Option ℕ
next_over s lease next [] = next
next_over s lease next (n ∷ ns) = next_over s lease (next_after (concerns s lease n) next n) ns

-- a message is the one that the session's inbound log has at its position
abbrev pub IsLogged : Board → Notice → Type 0
IsLogged board (Message s lease pos bytes) = slice_get (book_at board s).inbound pos ≡ Some bytes
IsLogged board (Granted nr s lease from start) = Unit {0}
IsLogged board (Refused nr s why) = Unit {0}

-- how many leases a session gave
abbrev pub leases_at : Board → ℕ → ℕ
leases_at board s = length (lines_of (book_at board s).entries)

-- the cursor is the session's, by its last lease, and the message at it comes next of these
pub record IsPumpedFrom (board : Board) (s : ℕ) (cursor : Cursor) (pushed : List Notice) : Type 0 where
  pub session : cursor.s ≡ s
  pub lease : cursor.lease ≡ leases_at board s
  pub next : next_over s (leases_at board s) None pushed ≡ Some cursor.at

-- Of each lease the grant comes first and once, and its messages have the positions from the grant's on, without a gap, each as the log has it there. No
-- lease is told that wasn't given; and of a session that the library has the message at the pump's cursor comes next.
pub record IsFed (board : Board) (cursors : List Cursor) (library : ℕ) (pushed : List Notice) : Type 0 where
  pub in_order : (s lease : ℕ) → AreInOrder s lease None pushed
  pub logged : All (IsLogged board) pushed
  pub fresh : (s lease : ℕ) → s < length board.sessions → leases_at board s < lease → next_over s lease None pushed ≡ None
  pub goes_on : (s : ℕ) → s < length board.sessions → owner_at board s ≡ library → IsPumpedFrom board s (cursor_at cursors s) pushed

-- and so it is of each library
abbrev pub AllAreFed : Board → List Cursor → List EngineEnds → Type 0
AllAreFed board cursors ends = (library : ℕ) (e : EngineEnds) → 1 ≤ library → slice_get ends (library - 1) ≡ Some e → IsFed board cursors library e.tail.pushed

-- where each session has its cursor
pub record AreFed (d : LibraryDesk) : Type 0 where
  pub cursors : length d.cursors.items ≡ length d.desk.board.sessions
  pub fed : AllAreFed d.desk.board d.cursors.items d.ends.items
