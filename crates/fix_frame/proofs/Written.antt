-- A frame that is written is a frame, and the cut of it begins with its body.
use Rattle.std.proofs.Common.{◌≡◌, ℕ, ◌+◌, ◌/◌, ◌%◌, ◌^◌, ◌≤◌, ◌<◌, Bool, true, cond, List, ◌++◌, length, decimal, Some, refl, ap, ◌∙◌, arith, rules, drop_at, eq-eqb, le-leb, inl, inr}
use Rattle.std.proofs.lemmas.Bool.{and_from, cases_lt}
use Rattle.std.proofs.lemmas.Fmt.{digits_decimal, digits_value-decimal, length-decimal-le, decimal_nonempty}
use Rattle.std.proofs.lemmas.Str.Parse.{IsNumeralModel, numerals_by_fold, digits_value_short}
use Rattle.std.specs.Prelude.{◌↔◌}
use Rattle.std.specs.Char.{is_ascii_digit}
use Rattle.std.specs.List.{list_all}
use Rattle.fix_frame.specs.declared.layout.TheConstants.{FRAMING, LONGEST_BODY, LONGEST_FRAME}
use Rattle.fix_frame.specs.Frame.{number_after, number_of, IsBody, IsCheckField, IsShaped, IsFrame, checksum, three_digits, frame_of}
use Rattle.fix_frame.specs.Cut.{CutPiece, good, garbled, found_in, piece_of, piece_at, standing_at, whole, onto, cut}
use Rattle.fix_frame.proofs.Standing.{length-stretch, standing-shaped}
use Rattle.fix_frame.proofs.Cutting.{cut-found, whole_fits}

-- the definitions of digits and their number are std's
own : IsNumeralModel (λ ds. list_all is_ascii_digit ds ≡ true) (number_after 0)
own = numerals_by_fold _ (search rules) number_after (search rules)

-- ---- the digits of a checksum

three-digits : (n : ℕ) → n < 256 → IsCheckField (three_digits n)
three-digits n small =
    record {
      digits = and_from _ _ (digit (n / 100) (omega arith)) (and_from _ _ (digit (n / 10 % 10) (omega arith)) (and_from _ _ (digit (n % 10) (omega arith)) refl));
      three = refl;
    }
  where
    digit : (d : ℕ) → d < 10 → is_ascii_digit (48 + d) ≡ true
    digit d h = and_from _ _ (le-leb 48 (48 + d) (omega arith)) (le-leb (48 + d) 57 (omega arith))

number_of-three : (n : ℕ) → n < 256 → number_of (three_digits n) ≡ n
number_of-three n small = omega arith

-- ---- the frame

module _ (limit : ℕ) (body : List ℕ) (is_body : IsBody body) (short : length (frame_of body) ≤ limit) (small : length body < 10 ^ 9) where
  n : ℕ
  n = length body

  fits64 : length body < 2 ^ 64
  fits64 = omega arith

  sum_small : checksum (decimal (length body)) body < 256
  sum_small = omega arith

  pub frame_shaped : IsShaped limit (frame_of body) (decimal (length body)) body (three_digits (checksum (decimal (length body)) body))
  frame_shaped =
      record {
        length_field = record {
          digits = digits_decimal own (length body) fits64;
          least = decimal_nonempty (length body) fits64;
          most = length-decimal-le 9 (length body) (omega arith) small fits64;
          number = digits_value-decimal own (length body) fits64;
        };
        is_body = is_body;
        check_field = three-digits (checksum (decimal (length body)) body) sum_small;
        whole = refl;
        short = short;
      }

  pub frame_is : IsFrame limit (frame_of body) body
  frame_is = record { field = decimal (length body); digits = three_digits (checksum (decimal (length body)) body); shaped = frame_shaped; right = number_of-three (checksum (decimal (length body)) body) sum_small }

  pub frame_cut : (more : List ℕ) → cut limit (frame_of body ++ more) ≡ onto (good body) (cut limit more)
  frame_cut more =
      let f = decimal (length body) in
      let d = three_digits (checksum f body) in
      let size = length (frame_of body) in
      let stands : standing_at limit (frame_of body ++ more) ≡ whole f body d = standing-shaped limit (frame_of body) f body d more frame_shaped in
      let right : number_of d ≡ checksum f body = number_of-three (checksum f body) sum_small in
      let is_good : piece_of f body d ≡ good body = ap (λ (t : Bool). cond t (good body) (garbled size)) (eq-eqb _ _ right) in
      let here : piece_at limit (frame_of body ++ more) ≡ Some (record { piece = good body; size = size }) =
      ap found_in stands ∙ ap (λ (p : CutPiece). Some (record { piece = p; size = size })) is_good in
      let fits = whole_fits limit (frame_of body ++ more) f body d stands in
      cut-found limit (frame_of body ++ more) (record { piece = good body; size = size }) (omega (arith, fits.least, fits.most)) fits.least here
      ∙ ap (λ (x : List ℕ). onto (good body) (cut limit x)) (drop_at (frame_of body) more size refl)

pub length-frame : (body : List ℕ) → length (frame_of body) ≡ 20 + length (decimal (length body)) + length body
length-frame body = length-stretch (decimal (length body)) body (three_digits (checksum (decimal (length body)) body)) refl

-- ---- how long a frame is

-- a length of at most LONGEST_FRAME has at most five digits
few_digits : (n : ℕ) → n ≤ LONGEST_FRAME → length (decimal n) ≤ 5
few_digits n most = length-decimal-le 5 n (omega arith) (omega arith) (omega arith)

pub framing : (body : List ℕ) → length body ≤ LONGEST_FRAME → length (frame_of body) ≤ length body + FRAMING
framing body most = omega (arith, length-frame body, few_digits (length body) most)

-- and with more bytes than LONGEST_BODY it has five
five_digits : (n : ℕ) → LONGEST_BODY < n → n ≤ LONGEST_FRAME → 5 ≤ length (decimal n)
five_digits n large most =
    elim (cases_lt 4 (length (decimal n))) [
      | inl many ↦ many
      | inr few ↦
          let small = digits_value_short own (decimal n) 4 (digits_decimal own n (omega arith)) few in
          absurd (omega (arith, small, digits_value-decimal own n (omega arith)))
    ]

longest-to : (body : List ℕ) → length (frame_of body) ≤ LONGEST_FRAME → length body ≤ LONGEST_BODY
longest-to body short =
    let within : length body ≤ LONGEST_FRAME = omega (arith, length-frame body) in
    elim (cases_lt LONGEST_BODY (length body)) [
      | inl large ↦ absurd (omega (arith, length-frame body, five_digits (length body) large within))
      | inr small ↦ small
    ]

longest-from : (body : List ℕ) → length body ≤ LONGEST_BODY → length (frame_of body) ≤ LONGEST_FRAME
longest-from body small = omega (arith, framing body (omega arith))

-- just the bodies of at most LONGEST_BODY bytes have a frame that isn't too long
pub longest : (body : List ℕ) → (length (frame_of body) ≤ LONGEST_FRAME) ↔ (length body ≤ LONGEST_BODY)
longest body = (longest-to body, longest-from body)
