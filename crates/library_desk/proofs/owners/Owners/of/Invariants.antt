use Rattle.std.proofs.Common.{◌≡◌, ℕ, ◌<◌, length, slice_index_or}
use Rattle.lease_desk.specs.Desk.{owner_at}
use Rattle.library_desk.specs.Owners.{AreMarked}
use Rattle.session_core.specs.declared.routing.TheConstants.{MOST_SESSIONS}
use Rattle.library_desk.proofs.owners.Owners.of.Given as goal

abbrev pub invariant-loop-s : goal.invariant-loop-s
invariant-loop-s l = record {
  long : length l.owners ≡ MOST_SESSIONS;
  wide : length l.marks ≡ 256;
  marked : AreMarked l.owners l.marks;
  told : (j : ℕ) → j < l.s → slice_index_or l.owners j 0 ≡ owner_at l.board j;
}
