use Rattle.engine_start.proofs.NewBooks.{BeginSessions}
use Rattle.engine_start.proofs.sessions.board.Given as goal

-- the sessions so far are made
abbrev pub invariant-loop-s : goal.invariant-loop-s
invariant-loop-s l = BeginSessions l.config l.s l.board
