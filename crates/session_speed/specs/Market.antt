-- One session that accepts, and one connection.
use Rattle.std.specs.Prelude.{◌≡◌, ℕ, length, List, None}
use Rattle.lease_core.specs.declared.entry.Entry.{Entry}
use Rattle.switchboard.specs.Board.{Board, book_at}
use Rattle.switchboard.specs.Ready.{IsReady}

-- Behind whatever happened, as the session went on from these entries.
pub record IsOpen (board : Board) : Type 0 where
  pub before : ℕ → List Entry
  pub ready : IsReady before board
  pub one : length board.sessions ≡ 1
  pub line : length board.connections ≡ 1
  pub accepts : (book_at board 0).machine.dials ≡ None
