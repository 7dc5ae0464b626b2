use Rattle.fix_fields.specs.Reading.{split_at_soh}
use Rattle.fix_fields.proofs.Splits.{Passed}
use Rattle.fix_fields.proofs.reading.split_at_soh.Given as goal

abbrev pub invariant-loop-i : goal.invariant-loop-i
invariant-loop-i l = Passed split_at_soh l.tail l.i
