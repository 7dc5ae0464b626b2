use Rattle.std.proofs.Common.{◌≡◌}
use Rattle.lease_speed.proofs.threads.take_round.Given as goal

abbrev pub invariant-loop-s : goal.invariant-loop-s
invariant-loop-s l = l.engine.table ≡ l.leases
