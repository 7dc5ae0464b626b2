-- The journal of a session that dials tells each of its connections from the Logon on.
use Rattle.std.specs.Prelude.{◌≡◌, ℕ, ◌<◌, [], length, Some}
use Rattle.std.specs.List.{All}
use Rattle.headline.specs.Dialled.{BeginsByLogon}
use Rattle.session_book.specs.Book.{Book}
use Rattle.session_book.specs.Spells.{spells_behind}
use Rattle.switchboard.specs.Board.{Board, book_at}
use Rattle.switchboard.specs.Sound.{IsLawful}

-- Where a session dials, the spell of each of its connections begins with the Logon by which it asked.
pub record LogsOnFirst (book : Book) : Type 0 where
  pub lawful : IsLawful book
  pub logons : (heart : ℕ) → book.machine.dials ≡ Some heart → All (BeginsByLogon book.outbound heart) (spells_behind [] book.entries)

-- and so it is of each session
abbrev pub LogonsComeFirst : Board → Type 0
LogonsComeFirst board = (s : ℕ) → s < length board.sessions → LogsOnFirst (book_at board s)
