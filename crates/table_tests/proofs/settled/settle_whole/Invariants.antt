use Rattle.std.proofs.Common.{◌≡◌, ◌+◌, ◌≤◌, ◌∷◌}
use Rattle.lease_words.specs.Facts.{OthersTaken}
use Rattle.lease_words.specs.Leases.{Each}
use Rattle.lease_words.specs.Tells.{IsSettled}
use Rattle.lease_words.specs.Views.{engine_at, pending}
use Rattle.table_tests.proofs.settled.settle_whole.Given as goal

abbrev pub invariant-loop : goal.invariant-loop
invariant-loop l = record {
  table : l.engine.table ≡ l.leases;
  settled : l.engine.settled ≡ l.fn.library.knows ∷ l.fn.engine.settled;
  told : Each (IsSettled l.s (engine_at l.engine l.s)) l.engine.settled;
  others : OthersTaken l.leases.shape.libraries (engine_at l.engine l.s);
  waits : pending (engine_at l.engine l.s) + l.counter ≤ 16;
}
