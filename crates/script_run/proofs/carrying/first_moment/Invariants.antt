use Rattle.std.proofs.Common.{◌≡◌, drop}
use Rattle.script_run.specs.Means.{first_moment}
use Rattle.script_run.proofs.carrying.first_moment.Given as goal

abbrev pub invariant-loop-step : goal.invariant-loop-step
invariant-loop-step l = first_moment (drop l.step-index l.steps) ≡ first_moment l.steps
