-- What holds of the engine's side between two steps.
use Rattle.std.specs.Prelude.{◌≡◌, ℕ, ◌<◌, ◌≤◌, length, IfSome, IsSome}
use Rattle.desk_tests.specs.declared.engine_desk.EngineDesk.{EngineDesk}
use Rattle.library_desk.specs.Serving.{AreCursors, IsLinked}
use Rattle.library_desk.specs.declared.shared.Shared.{Shared}
use Rattle.session_core.specs.declared.routing.TheConstants.{MOST_SESSIONS}
use Rattle.session_desk.specs.Steps.{AreNoted, AreRoutes, IsSteady}
use Rattle.switchboard.specs.Board.{Board, book_at}

-- it is a session that dials
pub record IsDialler (board : Board) (s : ℕ) : Type 0 where
  pub session : s < length board.sessions
  pub dials : IsSome (book_at board s).machine.dials

-- Sessions, seat, rings and cursors belong together; the routes are those of sessions that accept, what was noted are entries of the sessions, and the
-- session that dials is one.
pub record IsRunning (shared : Shared) (d : EngineDesk) : Type 0 where
  pub linked : IsLinked shared d.libraries
  pub steady : IsSteady d.libraries.desk.board d.libraries.desk.seat
  pub cursors : AreCursors d.libraries.desk.board d.libraries.cursors.items
  pub routes : AreRoutes d.libraries.desk.board d.routes
  pub few : length d.routes.names.items ≤ MOST_SESSIONS
  pub noted : AreNoted d.unkept.items d.libraries.desk.board
  pub dialler : IfSome d.dialler (IsDialler d.libraries.desk.board)
