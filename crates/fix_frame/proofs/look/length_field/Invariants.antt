use Rattle.std.proofs.Common.{◌≡◌, ◌+◌, ◌-◌, ◌^◌, ◌<◌, length, drop}
use Rattle.fix_frame.specs.Frame.{number_of, number_after}
use Rattle.fix_frame.specs.Cut.{digits_at}
use Rattle.fix_frame.proofs.look.length_field.Given as goal

-- the digits so far, and those that are left
abbrev pub invariant-loop-k : goal.invariant-loop-k
invariant-loop-k l =
    record {
      count : l.field.count ≡ l.k;
      whole : l.k + length (digits_at (9 - l.k) (drop (l.at + l.k) l.held)) ≡ length (digits_at 9 (drop l.at l.held));
      value : number_after l.field.value (digits_at (9 - l.k) (drop (l.at + l.k) l.held)) ≡ number_of (digits_at 9 (drop l.at l.held));
      small : l.field.value < 10 ^ l.k;
    }
