use Rattle.seq_gaps.proofs.Lines.{line_cleared}
use Rattle.std.specs.FinMap.{len-empty}
use Rattle.std.specs.Ordering.{nat_cmp}
use Rattle.seq_gaps.proofs.expect.Expect.clear.Goals as goal

pub invariant_of-self : goal.invariant_of-self
invariant_of-self g c = rw c.clear.ensures (line_cleared _ c.self.invariant)

pub returns-clause-count : goal.returns-clause-count
returns-clause-count g c = rw c.clear.ensures (len-empty nat_cmp _)
