-- Numbers and tags, as they stand in a body.
use Rattle.std.specs.Prelude.{ℕ, Bool, not, ◌&&◌, ◌==◌, nat_le, if◌then◌else◌, List, length, slice_index, Option, Some, None}
use Rattle.std.specs.Str.{all_ascii_digits}
use Rattle.std.specs.Str.Parse.{digits_value}
use Rattle.fix_fields.specs.declared.number.TheConstants.{MOST_DIGITS, MOST_NUMBER, MOST_TAG_DIGITS}

-- one to MOST_DIGITS digits, leading zeros allowed, with a value that 32 bits hold
abbrev pub is_number : List ℕ → Bool
is_number bytes =
    nat_le 1 (length bytes) && nat_le (length bytes) MOST_DIGITS && all_ascii_digits bytes
    && nat_le (digits_value 10 bytes) MOST_NUMBER

-- the number that the bytes are, if they are one
unfoldable pub number_of : List ℕ → Option ℕ
number_of bytes = if is_number bytes then Some (digits_value 10 bytes) else None

-- the tag that the bytes are: one to MOST_TAG_DIGITS digits without a leading zero, whose code is 48
unfoldable pub tag_of : List ℕ → Option ℕ
tag_of bytes =
    if nat_le (length bytes) MOST_TAG_DIGITS && not (slice_index bytes 0 == 48) then number_of bytes else None
