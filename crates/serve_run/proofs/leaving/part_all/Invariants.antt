use Rattle.std.proofs.Common.{◌≡◌, ◌+◌, ◌≤◌, length, map}
use Rattle.std.specs.Vec.Iter.{into_iter_len}
use Rattle.serve_run.specs.Workers.{report_of, seat_of}
use Rattle.serve_run.proofs.leaving.part_all.Given as goal

-- the libraries so far have left their seats and reports, and there is room for the others
abbrev pub invariant-loop-worker : goal.invariant-loop-worker
invariant-loop-worker l = record {
  seats_are : l.room.seats ≡ map seat_of l.yielded;
  reports_are : l.room.reports ≡ map report_of l.yielded;
  is_held : length l.room.seats + into_iter_len l.worker-iterator ≤ l.room.holds;
}
