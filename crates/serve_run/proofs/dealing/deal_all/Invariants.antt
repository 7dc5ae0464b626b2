use Rattle.std.proofs.Common.{◌≡◌, ℕ, [], ◌++◌, length}
use Rattle.library_desk.specs.declared.shared.Shared.{Shared}
use Rattle.serve_run.specs.Workers.{StartsWorkers}
use Rattle.serve_run.proofs.dealing.deal_all.Given as goal

-- the steps so far are dealt
abbrev pub invariant-loop-step : goal.invariant-loop-step
invariant-loop-step l = record {
  dealt : (asks count : ℕ) (shared : Shared) → StartsWorkers asks count shared [] l.initial.workers.items → StartsWorkers asks count shared l.yielded l.workers.items;
  count : length l.workers.items ≡ length l.initial.workers.items;
  steps_are : l.yielded ++ l.step-iterator.rest.items ≡ l.initial.step-iterator.rest.items;
}
