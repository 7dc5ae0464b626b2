use Rattle.std.proofs.Common.{◌≡◌, ◌+◌, ◌≤◌, map, vec_len, vec_capacity}
use Rattle.std.specs.List.{All}
use Rattle.std.specs.Vec.Iter.{into_iter_len}
use Rattle.engine_end.specs.Records.{HasLawfulJournal, left_in, left_of}
use Rattle.engine_end.proofs.records.session_records.Given as goal

-- the sessions so far have their records, and there is room for the others
abbrev pub invariant-loop-book : goal.invariant-loop-book
invariant-loop-book l = record {
  left : map left_in l.records.items ≡ map left_of l.yielded;
  journals : All HasLawfulJournal l.records.items;
  room : vec_len l.records + into_iter_len l.book-iterator ≤ vec_capacity l.records;
}
