-- Bytes as they are printed in scripts and reports: `|` is byte 1, and `\` with two lower-case hexadecimal digits is
-- the byte with that value.
use Rattle.std.specs.Prelude.{ℕ, zero, suc, ◌+◌, ◌-◌, ◌*◌, ◌/◌, ◌%◌, ◌==◌, ◌&&◌, ◌||◌, nat_le, nat_lt, Bool, if◌then◌else◌, List, [], ◌∷◌, length, Option, Some, None}
use Rattle.std.specs.List.{flat_map}
use Rattle.std.specs.Option.{option_map, option_and_then}
use Rattle.std.specs.Borrow.{Bor}

-- a byte from a space to `~`
abbrev pub is_printable : ℕ → Bool
is_printable b = nat_le 32 b && nat_le b 126

-- the lower-case hexadecimal digit of a number below 16
abbrev pub hex_digit_of : ℕ → ℕ
hex_digit_of n = if nat_lt n 10 then 48 + n else 87 + n

abbrev pub escaped_byte : ℕ → List ℕ
escaped_byte b = 92 ∷ hex_digit_of (b / 16) ∷ hex_digit_of (b % 16) ∷ []

-- `|` stands for byte 1; `|`, `\` and each byte that isn't printable are escaped; every other byte stands for itself
abbrev pub printed_byte : ℕ → List ℕ
printed_byte b = if b == 1 then 124 ∷ [] else if (b == 124) || (b == 92) then escaped_byte b else if is_printable b then b ∷ [] else escaped_byte b

-- bytes as they are printed
abbrev pub printed_text : List ℕ → List ℕ
printed_text bytes = flat_map printed_byte bytes

-- the value of a lower-case hexadecimal digit
abbrev pub hex_value : ℕ → Option ℕ
hex_value b =
    if nat_le 48 b && nat_le b 57 then Some (b - 48)
    else if nat_le 97 b && nat_le b 102 then Some (b - 87) else None

-- a byte, and the text behind what stands for it
pub record Front : Type 0 where
  pub byte : ℕ
  pub left : List ℕ

-- the same, where the text is lent
abbrev pub lent_front : Option (ℕ × Bor (List ℕ)) → Option Front
lent_front front = option_map (λ p. record { byte = p.0; left = p.1.now }) front

-- the byte that two digits at the front of a text stand for
abbrev pub front_of_digits : List ℕ → Option Front
front_of_digits [] = None
front_of_digits (high ∷ []) = None
front_of_digits (high ∷ low ∷ left) =
    option_and_then (λ h. option_map (λ l. record { byte = h * 16 + l; left = left }) (hex_value low)) (hex_value high)

-- the byte for which the front of a text stands, and the rest of the text
unfoldable pub front_of : List ℕ → Option Front
front_of [] = None
front_of (b ∷ left) =
    if b == 124 then Some (record { byte = 1; left = left })
    else (if b == 92 then front_of_digits left else Some (record { byte = b; left = left }))

-- The bytes that a text stands for; none where a `\` has no two digits behind it. The number that counts down bounds
-- how many bytes there are: no more than the text has.
unfoldable pub bytes_of_text_within : ℕ → List ℕ → Option (List ℕ)
bytes_of_text_within zero text = Some []
bytes_of_text_within (suc most) [] = Some []
bytes_of_text_within (suc most) (b ∷ left) =
    option_and_then (λ unit. option_map (λ bytes. unit.byte ∷ bytes) (bytes_of_text_within most unit.left)) (front_of (b ∷ left))

unfoldable pub bytes_of_text : List ℕ → Option (List ℕ)
bytes_of_text text = bytes_of_text_within (length text) text
