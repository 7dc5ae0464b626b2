use Rattle.std.proofs.Common.{◌≡◌}
use Rattle.lease_speed.proofs.threads.take_all.Given as goal

abbrev pub invariant-loop : goal.invariant-loop
invariant-loop g l = l.engine.table ≡ l.leases
