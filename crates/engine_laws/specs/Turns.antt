-- The account of a turn's steps.
use Rattle.std.specs.Prelude.{◌≡◌}
use Rattle.engine_laws.specs.Account.{StaysAccountedFor}
use Rattle.engine_loop.specs.declared.engine.Engine.{Engine}
use Rattle.switchboard.specs.Board.{Board}

-- the sessions and connections of an engine
abbrev pub board_of : Engine → Board
board_of e = e.sessions.desk.board

-- A step of the engine keeps its moment, at which all that it makes of the board is accounted for.
pub record EngineStaysAccountedFor (old new : Engine) : Type 0 where
  pub moment : new.moment ≡ old.moment
  pub board : StaysAccountedFor old.moment (board_of old) (board_of new)
