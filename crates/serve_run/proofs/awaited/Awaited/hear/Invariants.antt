use Rattle.std.proofs.Common.{◌≡◌, ℕ, ◌<◌, ◌≤◌, false, length}
use Rattle.std.specs.Prelude.{slice_get, slice_index_or}
use Rattle.serve_run.specs.Ended.{or_ended}
use Rattle.serve_run.proofs.awaited.Awaited.hear.Given as goal

-- of the libraries so far it is noted who said so, and of the others it is as it was
abbrev pub invariant-loop-place : goal.invariant-loop-place
invariant-loop-place l = record {
  heard : (j : ℕ) → j < l.place → slice_index_or l.self.said j false ≡ or_ended (slice_index_or l.initial.self.said j false) (slice_get l.libs j);
  unheard : (j : ℕ) → l.place ≤ j → slice_index_or l.self.said j false ≡ slice_index_or l.initial.self.said j false;
  rest : l.self ≡ record (l.initial.self) { said = l.self.said };
  places : length l.self.said ≡ length l.initial.self.said;
}
