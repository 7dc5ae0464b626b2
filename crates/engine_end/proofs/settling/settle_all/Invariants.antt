use Rattle.std.proofs.Common.{◌≡◌}
use Rattle.std.specs.List.{All}
use Rattle.std.specs.Vec.Iter.{into_iter_items}
use Rattle.engine_end.specs.Finishing.{after_settling}
use Rattle.lease_words.specs.Views.{LibraryView}
use Rattle.engine_end.proofs.settling.settle_all.Given as goal

-- the seats so far are taken in, and the others are the table's
abbrev pub invariant-loop-seat : goal.invariant-loop-seat
invariant-loop-seat l = record {
  settled : l.desk ≡ after_settling l.yielded l.initial.desk;
  others : All (λ (seat : LibraryView). seat.table ≡ l.leases) (into_iter_items l.seat-iterator);
}
