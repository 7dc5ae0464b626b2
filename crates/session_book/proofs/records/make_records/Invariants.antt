use Rattle.std.proofs.Common.{◌≡◌, ◌++◌, drop}
use Rattle.session_book.specs.Records.{records_from, series_over}
use Rattle.session_book.proofs.records.make_records.Given as goal

-- the records so far, with those to come, are all
abbrev pub invariant-loop-k : goal.invariant-loop-k
invariant-loop-k l = record {
  all : l.records.items ++ records_from l.s l.book.book l.present (drop l.k l.entries) (drop l.k l.expected) ≡ records_from l.s l.book.book l.series l.entries l.expected;
  few : series_over l.present (drop l.k l.entries) ≡ series_over l.series l.entries;
}
