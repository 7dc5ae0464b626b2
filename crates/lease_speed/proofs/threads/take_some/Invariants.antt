use Rattle.std.proofs.Common.{◌≡◌}
use Rattle.lease_speed.proofs.threads.take_some.Given as goal

abbrev pub invariant-loop : goal.invariant-loop
invariant-loop l = l.engine.table ≡ l.leases
