use Rattle.std.proofs.Common.{◌≡◌}
use Rattle.lease_words.specs.Leases.{held_lease}
use Rattle.lease_words.specs.Views.{library_at}
use Rattle.lease_speed.proofs.threads.send.Given as goal

abbrev pub invariant-loop : goal.invariant-loop
invariant-loop g l = (l.seat.table ≡ l.leases) × (l.item ≡ l.initial.item) × (held_lease (library_at l.seat l.s).leases ≡ l.item.lease)
