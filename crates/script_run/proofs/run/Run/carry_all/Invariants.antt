use Rattle.std.proofs.Common.{◌≡◌, false, length, drop}
use Rattle.script_run.specs.Comes.{FitBehind}
use Rattle.script_run.specs.Runs.{CarriesOut, IsRunning}
use Rattle.script_run.proofs.run.Run.carry_all.Given as goal

abbrev pub invariant-loop-step : goal.invariant-loop-step
invariant-loop-step l = record {
  carries : CarriesOut l.steps l.step-index l.initial.self l.self;
  running : IsRunning l.shared l.self;
  stands : l.self.engine.failed ≡ false;
  fit : FitBehind (length l.initial.self.callers.items) l.self.wire (drop l.step-index l.steps);
  count : length l.self.callers.items ≡ length l.initial.self.callers.items;
}
