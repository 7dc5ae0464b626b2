use Rattle.std.proofs.Common.{◌≡◌, take}
use Rattle.lease_core.proofs.recovery.Recovery.of.Given as goal

abbrev pub invariant-loop-entry : goal.invariant-loop-entry
invariant-loop-entry l = record {
  entries : l.recovery.entries ≡ take l.entry-index l.entries;
  leases : l.recovery.leases ≡ l.fn.leases;
}
