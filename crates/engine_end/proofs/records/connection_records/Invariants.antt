use Rattle.std.proofs.Common.{◌≡◌, ◌+◌, ◌≤◌, map, vec_len, vec_capacity}
use Rattle.std.specs.Vec.Iter.{into_iter_len}
use Rattle.connection_core.specs.Record.{record_of}
use Rattle.engine_end.specs.Records.{accepted_of, dialled_of}
use Rattle.engine_end.proofs.records.connection_records.Given as goal

-- the connections so far have their records, those of the two kinds apart, and there is room for all and for the others
abbrev pub invariant-loop-connection : goal.invariant-loop-connection
invariant-loop-connection l = record {
  accepted : l.records.items ≡ map record_of (accepted_of l.yielded);
  dialled_are : l.dialled.items ≡ map record_of (dialled_of l.yielded);
  room : (vec_len l.records + vec_len l.dialled) + into_iter_len l.connection-iterator ≤ vec_capacity l.records;
  dialled_room : vec_len l.dialled + into_iter_len l.connection-iterator ≤ vec_capacity l.dialled;
}
