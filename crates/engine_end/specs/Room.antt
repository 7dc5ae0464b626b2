-- The room for what an engine leaves.
use Rattle.std.specs.Prelude.{ℕ, ◌≤◌, length}
use Rattle.switchboard.specs.Board.{Board}

-- for the records of how many sessions and of how many connections there is room
pub record Room : Type 0 where
  pub sessions : ℕ
  pub connections : ℕ

-- there is room for those of this board
pub record HasRoomFor (board : Board) (room : Room) : Type 0 where
  pub for_sessions : length board.sessions ≤ room.sessions
  pub for_connections : length board.connections ≤ room.connections
