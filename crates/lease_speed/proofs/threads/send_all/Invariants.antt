use Rattle.std.proofs.Common.{◌≡◌}
use Rattle.lease_words.specs.Leases.{held_lease}
use Rattle.lease_words.specs.Views.{library_at}
use Rattle.lease_speed.proofs.threads.send_all.Given as goal

abbrev pub invariant-loop-item : goal.invariant-loop-item
invariant-loop-item g l = (l.seat.table ≡ l.leases) × (held_lease (library_at l.seat l.s).leases ≡ l.lease)
