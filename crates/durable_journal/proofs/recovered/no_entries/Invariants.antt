use Rattle.std.proofs.Common.{◌≡◌, ℕ, length, [], Some}
use Rattle.std.specs.Prelude.{slice_get}
use Rattle.lease_core.specs.Kept.{Kept}
use Rattle.durable_journal.proofs.recovered.no_entries.Given as goal

abbrev pub invariant-loop-s : goal.invariant-loop-s
invariant-loop-s l = record {
  len : length l.recoveries.items ≡ l.s;
  each : (s : ℕ) (kept : Kept) → slice_get l.recoveries.items s ≡ Some kept → (kept.entries ≡ []) × (kept.leases ≡ l.leases);
}
