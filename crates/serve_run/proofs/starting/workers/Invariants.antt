use Rattle.std.proofs.Common.{◌≡◌, [], ◌++◌, length}
use Rattle.serve_run.specs.Workers.{StartsWorkers}
use Rattle.serve_run.proofs.starting.workers.Given as goal

-- the libraries so far are those of the first ends
abbrev pub invariant-loop-one : goal.invariant-loop-one
invariant-loop-one l = record {
  started : StartsWorkers l.asks (length l.yielded) l._shared [] l.workers.items;
  ends_are : l.yielded ++ l.one-iterator.rest.items ≡ l.initial.one-iterator.rest.items;
}
