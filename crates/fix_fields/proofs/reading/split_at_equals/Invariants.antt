use Rattle.fix_fields.specs.Reading.{split_at_equals}
use Rattle.fix_fields.proofs.Splits.{Passed}
use Rattle.fix_fields.proofs.reading.split_at_equals.Given as goal

abbrev pub invariant-loop-i : goal.invariant-loop-i
invariant-loop-i l = Passed split_at_equals l.rest l.i
