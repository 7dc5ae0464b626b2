use Rattle.std.proofs.Common.{◌≡◌}
use Rattle.library_api.specs.Ends.{belongings}
use Rattle.plan_runner.specs.Plans.{CarriesLines}
use Rattle.plan_runner.specs.Stages.{stage_of}
use Rattle.plan_runner.proofs.work.Work.carry_all.Given as goal

-- the lines so far are carried out
abbrev pub invariant-lines : goal.invariant-lines
invariant-lines g l = record {
  carries : CarriesLines (g.G.Gate.open_wide l.gate) l.self.turns l.self.number l.plan l.step-index (stage_of l.initial.library l.initial.self) (stage_of l.library l.self);
  belongings_stay : belongings l.library.ends ≡ belongings l.initial.library.ends;
  rest : l.self ≡ record (l.initial.self) { passes = l.self.passes; calls = l.self.calls; left = l.self.left };
}
