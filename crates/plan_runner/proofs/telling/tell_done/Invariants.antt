use Rattle.std.proofs.Common.{◌≡◌, ◌<◌, ◌≤◌}
use Rattle.library_api.specs.Ends.{belongings}
use Rattle.library_api.specs.declared.waited.WaitKind.TheVariants.{Done}
use Rattle.plan_runner.specs.Ends.{FindsFull}
use Rattle.plan_runner.specs.Turns.{Times}
use Rattle.plan_runner.proofs.telling.tell_done.Given as goal

-- the calls so far found no room
abbrev pub invariant-telling : goal.invariant-telling
invariant-telling g l = record {
  fulls : Times (FindsFull l.finished) l._fulls l.initial.library l.library;
  waits : 0 < l._fulls → (l.library.waited.kind ≡ Done) × (l._fulls ≤ l.library.waited.count);
  belongings_stay : belongings l.library.ends ≡ belongings l.initial.library.ends;
}
