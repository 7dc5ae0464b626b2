-- What the bytes of a connection are cut into, with one case for each place.
use Rattle.std.specs.Prelude.{◌≡◌, ◌≤◌, ℕ, zero, suc, ◌+◌, ◌-◌, ◌*◌, ◌<◌, Bool, true, ◌&&◌, ◌||◌, if◌then◌else◌, ◌==◌, nat_le, nat_lt, List, [], ◌∷◌, ◌++◌, length, map, take, drop, replicate, codes, Option, None, Some}
use Rattle.std.specs.Char.{is_ascii_digit}
use Rattle.std.specs.List.{list_any}
use Rattle.std.specs.Option.{option_map_or}
use Rattle.fix_frame.specs.declared.layout.TheConstants.{MOST_DIGITS}
use Rattle.fix_frame.specs.Frame.{head, number_of, stretch_of, checksum, IsBody}

-- a piece: a good frame's body, or so many garbled bytes
pub data CutPiece : Type 0 where
  good : List ℕ → CutPiece
  garbled : ℕ → CutPiece

-- a piece that stands at a place, and how many bytes it takes
pub record Found : Type 0 where
  pub piece : CutPiece
  pub size : ℕ

-- what stands at a place: nothing yet, since more bytes may make it a whole stretch; a byte with which no stretch begins; or a whole stretch with this length field, this body and these digits of a checksum
pub data Standing : Type 0 where
  waiting : Standing
  stray : Standing
  whole : List ℕ → List ℕ → List ℕ → Standing

-- each byte passes the test in its place, as far as both lists go
abbrev pub agrees : List (ℕ → Bool) → List ℕ → Bool
agrees [] bytes = true
agrees (test ∷ tests) [] = true
agrees (test ∷ tests) (b ∷ bytes) = test b && agrees tests bytes

-- a test for each byte of a text
abbrev pub exactly : List ℕ → List (ℕ → Bool)
exactly text = map (λ c b. b == c) text

-- a test for each byte of a checksum and the end of its field
abbrev pub trailer : List (ℕ → Bool)
trailer = replicate 3 is_ascii_digit ++ exactly (1 ∷ [])

-- a test for each byte of a body of n bytes, at least 4, and of the field of the checksum behind it
abbrev pub form : ℕ → List (ℕ → Bool)
form n = exactly (codes "35=") ++ (replicate (n - 4) (λ _. true) ++ (exactly (1 ∷ codes "10=") ++ trailer))

-- the digits with which the bytes begin, at most so many
abbrev pub digits_at : ℕ → List ℕ → List ℕ
digits_at zero bytes = []
digits_at (suc most) [] = []
digits_at (suc most) (b ∷ bytes) = if is_ascii_digit b then b ∷ digits_at most bytes else []

-- a length field of so many digits and this number can stand in a stretch of at most limit bytes
abbrev pub fits : ℕ → ℕ → ℕ → Bool
fits limit count number = nat_le 1 count && (nat_le count MOST_DIGITS && (nat_le 4 number && nat_le (20 + count + number) limit))

-- the digits so far can become such a field: they are one, or one more digit makes them one
abbrev pub can_become : ℕ → ℕ → ℕ → Bool
can_become limit count number = fits limit count number || list_any (λ d. fits limit (count + 1) (10 * number + d)) (0 ∷ 1 ∷ 2 ∷ 3 ∷ 4 ∷ 5 ∷ 6 ∷ 7 ∷ 8 ∷ 9 ∷ [])

-- what stands at a place whose head and length field are whole, told from where the body begins
unfoldable pub behind_head : List ℕ → List ℕ → Standing
behind_head field bytes =
    let n = number_of field in
    if agrees (form n) bytes then (if nat_lt (length bytes) (n + 7) then waiting else whole field (take n bytes) (take 3 (drop (n + 3) bytes))) else stray

-- the same, told from where the length field ends
unfoldable pub behind_field : ℕ → List ℕ → List ℕ → Standing
behind_field limit field [] = if can_become limit (length field) (number_of field) then waiting else stray
behind_field limit field (b ∷ bytes) = if (b == 1) && fits limit (length field) (number_of field) then behind_head field bytes else stray

-- the same, told from where the length field begins
unfoldable pub behind_start : ℕ → List ℕ → Standing
behind_start limit bytes = behind_field limit (digits_at MOST_DIGITS bytes) (drop (length (digits_at MOST_DIGITS bytes)) bytes)

-- what stands at the beginning of the bytes, where a frame has at most limit bytes
unfoldable pub standing_at : ℕ → List ℕ → Standing
standing_at limit bytes = if agrees (exactly head) bytes then behind_start limit (drop 12 bytes) else stray

-- the piece that a whole stretch is: good where its checksum is right, and else garbled as a whole
abbrev pub piece_of : List ℕ → List ℕ → List ℕ → CutPiece
piece_of field body digits = if number_of digits == checksum field body then good body else garbled (length (stretch_of field body digits))

-- the piece that stands there, and how many bytes it takes
abbrev pub found_in : Standing → Option Found
found_in waiting = None
found_in stray = Some (record { piece = garbled 1; size = 1 })
found_in (whole field body digits) = Some (record { piece = piece_of field body digits; size = length (stretch_of field body digits) })

-- the piece at the beginning of the bytes, or None where they are the rest
abbrev pub piece_at : ℕ → List ℕ → Option Found
piece_at limit bytes = found_in (standing_at limit bytes)

-- the pieces of some bytes in order, and the rest of them
pub record Cut : Type 0 where
  pub pieces : List CutPiece
  pub rest : List ℕ

-- a piece, and what is cut behind it
abbrev pub onto : CutPiece → Cut → Cut
onto piece behind = record { pieces = piece ∷ behind.pieces; rest = behind.rest }

-- the cut of the bytes behind the first so many, which belong to a piece
abbrev pub cut_behind : ℕ → ℕ → List ℕ → Cut
cut_behind limit taken [] = record { pieces = []; rest = [] }
cut_behind limit (suc taken) (b ∷ bytes) = cut_behind limit taken bytes
cut_behind limit zero (b ∷ bytes) =
    option_map_or (λ found. onto found.piece (cut_behind limit (found.size - 1) bytes)) (piece_at limit (b ∷ bytes)) (record { pieces = []; rest = b ∷ bytes })

-- the cut of bytes, where a frame has at most limit bytes
abbrev pub cut : ℕ → List ℕ → Cut
cut limit bytes = cut_behind limit zero bytes

-- these pieces, and what is cut behind them
abbrev pub behind : List CutPiece → Cut → Cut
behind given later = record { pieces = given ++ later.pieces; rest = later.rest }

-- a piece as a limit allows it: a body that can be written, or some bytes
abbrev pub IsPiece : ℕ → CutPiece → Type 0
IsPiece limit (good body) = IsBody body × (length body < limit)
IsPiece limit (garbled size) = (0 < size) × (size ≤ limit)

-- the first piece of the old bytes, and the new bytes, which lie behind it
pub record TakesPiece (limit : ℕ) (old : List ℕ) (piece : CutPiece) (new : List ℕ) : Type 0 where
  -- how many bytes it takes
  pub size : ℕ
  pub found : piece_at limit old ≡ Some (record { piece = piece; size = size })
  pub left : new ≡ drop size old
  pub goes_on : cut limit old ≡ onto piece (cut limit new)
  pub least : 0 < size
  pub most : size ≤ limit
  pub adds_up : size + length new ≡ length old
  pub garbled_size : (n : ℕ) → piece ≡ garbled n → n ≡ size
  pub good_body : (body : List ℕ) → piece ≡ good body → IsBody body × (length body < size)

-- the cut of a text is the pieces that were given so far, and behind them the cut of the bytes that are held
pub record IsCutSoFar (limit : ℕ) (text : List ℕ) (given : List CutPiece) (held : List ℕ) : Type 0 where
  pub so_far : cut limit text ≡ behind given (cut limit held)
