use Rattle.std.proofs.Common.{◌≡◌, ◌++◌, length}
use Rattle.std.specs.Vec.Iter.{into_iter_items}
use Rattle.engine_start.specs.Revived.{AreRevived, CanGoOn}
use Rattle.engine_start.proofs.reviving.revive.Given as goal

-- the records so far were read
abbrev pub invariant-loop-next : goal.invariant-loop-next
invariant-loop-next l = record {
  all : l.yielded ++ into_iter_items l.next-iterator ≡ l.fn.records.items;
  revived : AreRevived l.config.leases (length l.config.names) l.yielded l.revived.items;
  numbers : CanGoOn (length l.config.names) l.revived.items;
}
