use Rattle.std.proofs.Common.{◌≡◌, length}
use Rattle.durable_journal.proofs.Fronts.{ReadUpTo}
use Rattle.durable_journal.proofs.reading.read_records.Given as goal

abbrev pub invariant-record : goal.invariant-record
invariant-record l = record {
  read : ReadUpTo l.bytes l.fn.recovered l.recovered l.rest;
  sessions : l.recovered.sessions ≡ l.fn.recovered.sessions;
  leases : l.recovered.leases ≡ l.fn.recovered.leases;
}

abbrev pub decreases-record : goal.decreases-record
decreases-record l = length l.rest
