use Rattle.std.proofs.Common.{◌≡◌, ◌++◌}
use Rattle.script_run.specs.Means.{StartsAll}
use Rattle.script_run.proofs.starting.callers.Given as goal

-- the libraries so far are those of the first ends
abbrev pub invariant-loop-one : goal.invariant-loop-one
invariant-loop-one l = record {
  started : StartsAll l.asks l._shared l.yielded l.callers.items;
  ends_are : l.yielded ++ l.one-iterator.rest.items ≡ l.initial.one-iterator.rest.items;
}
