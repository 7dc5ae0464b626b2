-- What the proofs know of the number line.
use Rattle.seq_gaps.specs.Laws.{LinesStayLines, HeldItems, HeldCounts, ExpectedNumbers}
use Rattle.session_core.specs.declared.tasks.Task.{Task}

pub record LineLaws : Type 0 where
  pub lines : LinesStayLines Task
  pub items : HeldItems Task
  pub counts : HeldCounts Task
  pub numbers : ExpectedNumbers Task
