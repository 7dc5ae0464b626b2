use Rattle.std.proofs.Common.{◌≡◌, replicate}
use Rattle.engine_start.specs.Revived.{new_revived}
use Rattle.engine_start.proofs.reviving.nothing_read.Given as goal

-- so many sessions so far
abbrev pub invariant-loop-s : goal.invariant-loop-s
invariant-loop-s l = l.revived.items ≡ replicate l._s (new_revived l.leases)
