use Rattle.std.specs.Prelude.{◌≢◌, ℕ, ◌<◌}
use Rattle.switchboard.specs.Board.{connection_at}
use Rattle.desk_tests.proofs.counterparty.is_new.Given as goal

abbrev pub invariant-loop-k : goal.invariant-loop-k
invariant-loop-k l = (j : ℕ) → j < l.k → (connection_at l.board j).number ≢ l.number
