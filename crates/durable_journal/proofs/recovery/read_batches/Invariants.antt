use Rattle.std.proofs.Common.{◌≡◌, ◌-◌, ◌<◌, ◌≤◌}
use Rattle.std.specs.Prelude.{IfSome}
use Rattle.durable_journal.specs.Disk.{bytes_of}
use Rattle.durable_journal.specs.Recovered.{IsReadTo}
use Rattle.durable_journal.proofs.recovery.read_batches.Given as goal

abbrev pub invariant-batch : goal.invariant-batch
invariant-batch g l = record {
  read : IfSome (g.D.Disk.history l.fn.disk) (λ told. IsReadTo (bytes_of told) l.gate l.first l.recovered.records);
  nothing_done : g.D.Disk.history l.disk ≡ g.D.Disk.history l.fn.disk;
  inside : l.gate < l.end;
  sessions : l.recovered.sessions ≡ l.sessions;
  leases : l.recovered.leases ≡ l.leases;
  faults : g.D.Disk.faults l.fn.disk ≤ g.D.Disk.faults l.disk;
}

abbrev pub decreases-batch : goal.decreases-batch
decreases-batch g l = l.end - l.gate
