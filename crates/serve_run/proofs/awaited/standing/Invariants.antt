use Rattle.std.proofs.Common.{◌≡◌, ◌≢◌, ℕ, ◌<◌}
use Rattle.std.specs.Prelude.{None}
use Rattle.switchboard.specs.Board.{connection_at}
use Rattle.serve_run.proofs.awaited.standing.Given as goal

-- the connections so far have ended
abbrev pub invariant-loop-k : goal.invariant-loop-k
invariant-loop-k l = (j : ℕ) → j < l.k → (connection_at l.engine.sessions.desk.board j).cause ≢ None
