use Rattle.std.proofs.Common.{◌≡◌, ◌+◌, inl, inr, length, get_or, take, Some, sym, ap, ◌∙◌, arith}
use Rattle.std.proofs.lemmas.Bool.Decides.{nat_tests}
use Rattle.std.proofs.lemmas.Int.Digits.{digits_value_more, digits_more}
use Rattle.std.proofs.lemmas.List.{take_all}
use Rattle.fix_fields.proofs.Numbers.{number_of_not_length, number_of_not_digit, number_of_large, number_of_digits, digit_value_is}
use Rattle.fix_fields.proofs.number.read_number.Goals as goal

pub returns-then-is_empty : goal.returns-then-is_empty
returns-then-is_empty c =
    elim c.then-is_empty.either [
      | inl e ↦ let none : length c.args.bytes.now ≡ 0 = grind (arith, nat_tests) in sym (number_of_not_length _ (inl none))
      | inr e ↦ sym (number_of_not_length _ (inr e.1))
    ]

pub returns-then-not-is_ascii_digit : goal.returns-then-not-is_ascii_digit
returns-then-not-is_ascii_digit c =
    sym (number_of_not_digit _ c.loop-byte.byte-index c.loop-byte-test.true (sym c.is_ascii_digit.ensures.value ∙ c.if-not-is_ascii_digit.true))

pub returns-then-value-gt-MOST_NUMBER : goal.returns-then-value-gt-MOST_NUMBER
returns-then-value-gt-MOST_NUMBER c =
    let more = digits_value_more 10 c.args.bytes.now c.loop-byte.byte-index c.loop-byte-test.true in
    let digit = digit_value_is (get_or c.args.bytes.now c.loop-byte.byte-index 0) (sym c.is_ascii_digit.ensures.value ∙ c.if-not-is_ascii_digit.false) in
    sym (number_of_large _ (c.loop-byte.byte-index + 1) (omega (arith, more, digit, c.if-value-gt-MOST_NUMBER.true, c.loop-byte.invariant.value)))

pub loop-byte-preserved : goal.loop-byte-preserved
loop-byte-preserved c =
    let more = digits_value_more 10 c.args.bytes.now c.loop-byte.byte-index c.loop-byte-test.true in
    let digit = digit_value_is (get_or c.args.bytes.now c.loop-byte.byte-index 0) (sym c.is_ascii_digit.ensures.value ∙ c.if-not-is_ascii_digit.false) in
    record {
      digits = digits_more 10 _ c.loop-byte.byte-index c.loop-byte-test.true c.loop-byte.invariant.digits (c.if-not-is_ascii_digit.ensures.bound);
      value = omega (arith, more, digit, c.loop-byte.invariant.value);
      bound = omega arith;
      short = c.loop-byte.invariant.short;
      filled = c.loop-byte.invariant.filled;
    }

pub returns : goal.returns
returns c =
    let whole : take c.loop-byte.byte-index c.args.bytes.now ≡ c.args.bytes.now = take_all _ _ c.loop-byte-test.false in
    let digits = rw whole at c.loop-byte.invariant.digits in
    let value = rw whole at c.loop-byte.invariant.value in
    ap Some value
    ∙ sym (number_of_digits _ c.loop-byte.invariant.filled c.loop-byte.invariant.short digits (omega (arith, value, c.loop-byte.invariant.bound)))
