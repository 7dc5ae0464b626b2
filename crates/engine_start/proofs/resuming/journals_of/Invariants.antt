use Rattle.engine_start.proofs.Journals.{AreJournals}
use Rattle.engine_start.proofs.resuming.journals_of.Given as goal

-- the journals of the sessions so far
abbrev pub invariant-loop-s : goal.invariant-loop-s
invariant-loop-s l = AreJournals l.board.sessions l.s l.journals.items
