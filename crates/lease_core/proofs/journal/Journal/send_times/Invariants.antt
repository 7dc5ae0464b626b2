use Rattle.std.proofs.Common.{◌≡◌, ◌≤◌, ◌+◌}
use Rattle.lease_core.specs.Lines.{entries_after_sends}
use Rattle.lease_core.proofs.journal.Journal.send_times.Given as goal

abbrev pub invariant-loop : goal.invariant-loop
invariant-loop l = record {
  entries : l.self.entries ≡ entries_after_sends l.counter l.fn.self.entries;
  leases : l.self.leases ≡ l.fn.self.leases;
  spare : l.fn.self.spare ≤ l.self.spare + l.counter;
}
