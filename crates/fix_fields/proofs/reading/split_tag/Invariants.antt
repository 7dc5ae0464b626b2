use Rattle.std.proofs.Common.{◌≡◌, ◌≤◌, take}
use Rattle.std.specs.Str.Parse.{digits_value, AllDigits}
use Rattle.fix_fields.specs.Reading.{split_at_equals}
use Rattle.fix_fields.proofs.Splits.{Passed}
use Rattle.fix_fields.proofs.reading.split_tag.Given as goal

-- the bytes so far are digits, no `=`, and what they write is the tag
abbrev pub invariant-loop-i : goal.invariant-loop-i
invariant-loop-i l =
    record {
      passed : Passed split_at_equals l.rest l.i;
      digits : AllDigits 10 (take l.i l.rest);
      value : l.tag ≡ digits_value 10 (take l.i l.rest);
      most : l.i ≤ 9;
    }
