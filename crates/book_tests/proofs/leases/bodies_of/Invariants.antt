use Rattle.std.specs.List.{All}
use Rattle.resend_plan.specs.Fit.{IsFit}
use Rattle.book_tests.proofs.leases.bodies_of.Given as goal

abbrev pub invariant-loop-text : goal.invariant-loop-text
invariant-loop-text l = All IsFit l.bodies.items
