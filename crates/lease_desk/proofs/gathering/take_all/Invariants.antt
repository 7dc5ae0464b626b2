use Rattle.std.proofs.Common.{◌≡◌, ◌≤◌, ◌+◌, length}
use Rattle.std.specs.List.{All}
use Rattle.std.specs.VecDeque.{deque_capacity}
use Rattle.lease_words.specs.Facts.{OthersTaken}
use Rattle.lease_words.specs.Leases.{Each}
use Rattle.lease_words.specs.Tells.{IsSettled}
use Rattle.lease_words.specs.Views.{engine_at, pending}
use Rattle.switchboard.specs.Fit.{IsFit}
use Rattle.lease_desk.specs.Desk.{TakesItems}
use Rattle.lease_desk.proofs.gathering.take_all.Given as goal

abbrev pub invariant-loop-item : goal.invariant-loop-item
invariant-loop-item l = record {
  takes : TakesItems l.s l.initial.seat l.seat l.bodies.items;
  fit : All IsFit l.bodies.items;
  count : length l.bodies.items + pending (engine_at l.seat l.s) ≡ pending (engine_at l.initial.seat l.s);
  settled : Each (IsSettled l.s (engine_at l.initial.seat l.s)) l.initial.seat.settled → Each (IsSettled l.s (engine_at l.seat l.s)) l.seat.settled;
  others_taken : OthersTaken l.leases.shape.libraries (engine_at l.initial.seat l.s) → OthersTaken l.leases.shape.libraries (engine_at l.seat l.s);
  table : l.seat.table ≡ l.leases;
  capacity : pending (engine_at l.initial.seat l.s) ≤ deque_capacity l.bodies;
}

abbrev pub decreases-loop-item : goal.decreases-loop-item
decreases-loop-item l = pending (engine_at l.seat l.s)
