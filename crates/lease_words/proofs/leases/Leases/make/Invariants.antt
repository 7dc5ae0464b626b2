use Rattle.std.proofs.Common.{◌≡◌, ◌+◌, ◌≤◌}
use Rattle.std.specs.Vec.{vec_len, vec_capacity}
use Rattle.lease_words.proofs.MakingCalls.{IsMaking}
use Rattle.lease_words.proofs.leases.Leases.make.Given as goal

abbrev pub invariant-loop-number : goal.invariant-loop-number
invariant-loop-number l = record {
  making : IsMaking (record { shape = l.leases-inside.table.shared.key; table = l.leases-inside.table.shared.table_id }) l.engine l.seats.items l.libraries l.number;
  len : vec_len l.seats + 1 ≡ l.number;
  room : l.libraries ≤ vec_capacity l.seats;
}
