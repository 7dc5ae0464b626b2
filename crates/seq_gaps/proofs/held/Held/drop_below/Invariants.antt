use Rattle.std.proofs.Common.{◌≡◌, nat_le}
use Rattle.std.specs.FinMap as map
use Rattle.seq_gaps.proofs.held.Held.drop_below.Given as goal

-- from `to` on the same is held as at first
abbrev pub invariant-loop-first : goal.invariant-loop-first
invariant-loop-first g l = map.retain_keys l.self (nat_le l.to) ≡ map.retain_keys l.fn.self (nat_le l.fn.to)

abbrev pub decreases-loop-first : goal.decreases-loop-first
decreases-loop-first g l = map.len l.self
