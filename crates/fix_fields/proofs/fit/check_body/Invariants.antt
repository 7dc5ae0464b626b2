use Rattle.std.proofs.Common.{◌≡◌, ◌-◌, ◌≤◌, length}
use Rattle.fix_fields.specs.Fit.{unfit_at}
use Rattle.fix_fields.proofs.Unfit.{outcome}
use Rattle.fix_fields.proofs.WholeBody.{fields_after}
use Rattle.fix_fields.proofs.fit.check_body.Given as goal

-- the answer is what the fields so far and those of the rest give
abbrev pub invariant-loop-before : goal.invariant-loop-before
invariant-loop-before l =
    record {
      answer : outcome l.unfit (length l.body - length l.rest) (fields_after (length l.body) l.before l.rest) ≡ unfit_at l.body;
      within : length l.rest ≤ length l.body;
    }

abbrev pub decreases-loop-before : goal.decreases-loop-before
decreases-loop-before l = length l.rest
