use Rattle.std.proofs.Common.{◌≡◌, ◌≤◌, length}
use Rattle.fix_fields.specs.Reading.{fields_of}
use Rattle.fix_fields.proofs.WholeBody.{with_front, fields_after}
use Rattle.fix_fields.proofs.fields.Fields.read.Given as goal

-- the fields so far and those of the rest are the body's
abbrev pub invariant-loop-before : goal.invariant-loop-before
invariant-loop-before l =
    record {
      read : with_front l.entries.items (fields_after (length l.body) l.before l.rest) ≡ fields_of l.body;
      within : length l.rest ≤ length l.body;
    }

abbrev pub decreases-loop-before : goal.decreases-loop-before
decreases-loop-before l = length l.rest
