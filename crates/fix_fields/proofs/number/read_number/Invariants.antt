use Rattle.std.proofs.Common.{◌≡◌, ◌≤◌, ◌<◌, length, take}
use Rattle.std.specs.Str.Parse.{digits_value, AllDigits}
use Rattle.fix_fields.proofs.number.read_number.Given as goal

-- the bytes so far are digits, and what they write is the value
abbrev pub invariant-loop-byte : goal.invariant-loop-byte
invariant-loop-byte l =
    record {
      digits : AllDigits 10 (take l.byte-index l.bytes);
      value : l.value ≡ digits_value 10 (take l.byte-index l.bytes);
      bound : l.value ≤ 4_294_967_295;
      short : length l.bytes ≤ 20;
      filled : 0 < length l.bytes;
    }
