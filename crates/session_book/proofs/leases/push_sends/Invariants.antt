use Rattle.std.proofs.Common.{◌≡◌, ◌≤◌, length}
use Rattle.session_book.specs.Words.{with_sends}
use Rattle.session_book.proofs.leases.push_sends.Given as goal

abbrev pub invariant-loop-body : goal.invariant-loop-body
invariant-loop-body l = record {
  series : with_sends l.at l.bodies.items l.log.series ≡ with_sends l.at l.initial.bodies.items l.initial.log.series;
  spare : length l.bodies.items ≤ l.log.spare;
}

abbrev pub decreases-loop-body : goal.decreases-loop-body
decreases-loop-body l = length l.bodies.items
