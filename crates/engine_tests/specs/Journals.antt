-- Records of the first of three sessions, and behind which of its entries an engine can begin.
use Rattle.std.specs.Prelude.{ℕ, ◌<◌, List, [], map}
use Rattle.std.specs.List.{AllByRecursion}
use Rattle.engine_start.specs.Restarts.{CanBeRevived, entries_in, records_of}
use Rattle.engine_tests.specs.declared.open_journals.TheConstants.{EXPECTED}
use Rattle.lease_core.specs.Runs.{IsRun}
use Rattle.lease_core.specs.declared.entry.Entry.{Entry}
use Rattle.lease_core.specs.declared.record.Record.{Record}

-- the record of an entry without moment and body
abbrev pub record_of : Entry → Record
record_of e = record { s = 0; entry = e; at = 0; body = []; expected = EXPECTED }

-- An engine of three sessions, each of which can be granted nine times, can begin behind these entries of the first.
pub record CanBegin (entries : List Entry) : Type 0 where
  pub each : AllByRecursion (CanBeRevived 3) (map record_of entries)
  pub runs : (s : ℕ) → s < 3 → IsRun 9 (entries_in (records_of s (map record_of entries)))
