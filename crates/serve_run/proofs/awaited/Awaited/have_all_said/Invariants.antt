use Rattle.std.proofs.Common.{◌≡◌, ℕ, ◌<◌, false, true}
use Rattle.std.specs.Prelude.{slice_index_or}
use Rattle.serve_run.proofs.awaited.Awaited.have_all_said.Given as goal

-- the libraries so far said so
abbrev pub invariant-loop-place : goal.invariant-loop-place
invariant-loop-place l = (j : ℕ) → j < l.place → slice_index_or l.self.said j false ≡ true
