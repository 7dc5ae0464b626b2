use Rattle.std.proofs.Common.{◌≡◌}
use Rattle.library_api.specs.Ends.{belongings}
use Rattle.plan_runner.specs.Stages.{stage_of}
use Rattle.plan_runner.specs.Turns.{WaitsFor}
use Rattle.plan_runner.proofs.work.Work.advance.Given as goal

-- the turns so far were waiting ones
abbrev pub invariant-waiting : goal.invariant-waiting
invariant-waiting g l = record {
  waited : WaitsFor (g.G.Gate.open_wide l.gate) l.line l._waits (stage_of l.initial.library l.initial.self) (stage_of l.library l.self);
  belongings_stay : belongings l.library.ends ≡ belongings l.initial.library.ends;
  rest : l.self ≡ record (l.initial.self) { passes = l.self.passes; calls = l.self.calls; left = l.self.left };
}
