use Rattle.std.proofs.Common.{◌≡◌, map, take}
use Rattle.engine_tests.specs.Journals.{record_of}
use Rattle.engine_tests.proofs.open_journals.records.Given as goal

-- the records of the entries so far
abbrev pub invariant-loop-entry : goal.invariant-loop-entry
invariant-loop-entry l = l.records.items ≡ map record_of (take l.entry-index l.entries)
