use Rattle.std.proofs.Common.{◌≡◌, ◌-◌, length}
use Rattle.library_api.specs.Ends.{belongings}
use Rattle.plan_runner.specs.Stages.{stage_of}
use Rattle.plan_runner.specs.Turns.{IsUnderWay}
use Rattle.plan_runner.proofs.work.Work.carry.Given as goal

-- the line is under way
abbrev pub invariant-line : goal.invariant-line
invariant-line g l = record {
  way : IsUnderWay (g.G.Gate.open_wide l.gate) l.self.turns l.line (stage_of l.fn.library l.fn.self) (stage_of l.library l.self);
  belongings_stay : belongings l.library.ends ≡ belongings l.fn.library.ends;
  rest : l.self ≡ record (l.fn.self) { passes = l.self.passes; calls = l.self.calls; left = l.self.left };
}

-- each reported call makes the report longer
abbrev pub decreases-line : goal.decreases-line
decreases-line g l = 18446744073709551616 - length l.self.calls.items
