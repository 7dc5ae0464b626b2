use Rattle.seq_gaps.proofs.Lines.{line_opening}
use Rattle.std.specs.FinMap.{len-empty}
use Rattle.std.specs.Ordering.{nat_cmp}
use Rattle.seq_gaps.proofs.expect.Expect.new.Goals as goal

pub invariant_of-result : goal.invariant_of-result
invariant_of-result g c = rw c.in_ok-new.ensures line_opening

pub returns-clause-held : goal.returns-clause-held
returns-clause-held g c = rw c.in_ok-new.ensures (len-empty nat_cmp _)
