use Rattle.std.specs.List.{All}
use Rattle.resend_plan.specs.Fit.{IsFit}
use Rattle.refusal_tests.proofs.events.reports.Given as goal

abbrev pub invariant-loop-report : goal.invariant-loop-report
invariant-loop-report l = All IsFit l.bodies.items
