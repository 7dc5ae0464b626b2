use Rattle.std.proofs.Common.{◌≡◌, ◌+◌, ◌≤◌, take}
use Rattle.connection_core.specs.Outgoing.{with_items}
use Rattle.connection_core.proofs.outbox.Outbox.queue_all.Given as goal

abbrev pub invariant-loop-item : goal.invariant-loop-item
invariant-loop-item l = record {
  queued : l.self.outgoing ≡ with_items (take l.item-index l.items) l.initial.self.outgoing;
  spare : l.initial.self.spare ≤ l.self.spare + l.item-index;
}
