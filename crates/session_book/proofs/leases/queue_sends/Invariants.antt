use Rattle.std.proofs.Common.{◌≡◌, ◌≤◌, ◌+◌, ◌-◌}
use Rattle.connection_core.specs.Outgoing.{with_items}
use Rattle.session_book.specs.Words.{new_items}
use Rattle.session_book.proofs.leases.queue_sends.Given as goal

-- what waits, with the items that are still to come, is what waits in the end
abbrev pub invariant-loop-k : goal.invariant-loop-k
invariant-loop-k l = record {
  items : with_items (new_items l.series (l.first + l.k) (l.sends - l.k)) l.out.outgoing ≡ with_items (new_items l.series l.first l.sends) l.initial.out.outgoing;
  room : l.sends ≤ l.out.spare + l.k;
}
