use Rattle.std.specs.List.{All}
use Rattle.resend_plan.specs.Fit.{IsFit}
use Rattle.book_tests.proofs.runs.copies_of.Given as goal

abbrev pub invariant-loop-body : goal.invariant-loop-body
invariant-loop-body l = All IsFit l.copies.items
