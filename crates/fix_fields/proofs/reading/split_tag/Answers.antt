use Rattle.std.proofs.Common.{◌≡◌, ℕ, ◌+◌, ◌-◌, length, get_or, take, drop, Some, None, sym, ap, ◌∙◌, arith, false, eqb}
use Rattle.std.proofs.lemmas.Bool.{ne_eqb}
use Rattle.std.proofs.lemmas.Int.Digits.{digits_value_more, digits_more}
use Rattle.std.proofs.lemmas.List.{take_all, length-drop, length-take-le, get_or-take}
use Rattle.fix_fields.specs.Number.{tag_of}
use Rattle.fix_fields.proofs.Numbers.{digit_value_is}
use Rattle.fix_fields.proofs.Tags.{tag_of_digits, tag_of_nil, tag_of_zero, tag_at_found, tag_at_found_none, tag_at_stop_long, tag_at_stop_other, small_tag, passed_digit}
use Rattle.fix_fields.proofs.reading.split_tag.Goals as goal
use Rattle.fix_fields.proofs.reading.split_tag.Goals.{then-i-eq0-via-then-i-eq0, then-i-eq0-via-else-i-eq0+then-rest-eq48, then-i-eq-MOST_TAG_DIGITS-via-then-i-eq-MOST_TAG_DIGITS, then-i-eq-MOST_TAG_DIGITS-via-else-i-eq-MOST_TAG_DIGITS+then-not-is_ascii_digit}

pub returns-then-i-eq0 : goal.returns-then-i-eq0
returns-then-i-eq0 c =
    let rest = c.args.rest.now in
    let i = c.loop-i.i in
    let no_tag : tag_of (take i rest) ≡ None = elim c.then-i-eq0.branch [
      | then-i-eq0-via-then-i-eq0 w ↦ ap (λ (n : ℕ). tag_of (take n rest)) w.if-i-eq0.true ∙ tag_of_nil
      | then-i-eq0-via-else-i-eq0+then-rest-eq48 w ↦ tag_of_zero (take i rest) (get_or-take i rest 0 0 (omega (arith, w.if-i-eq0.false)) ∙ w.if-rest-eq48.true)
    ] in
    sym (tag_at_found_none rest i c.loop-i-test.true c.if-byte-eq61.true c.loop-i.invariant.passed no_tag)

pub returns-then-byte-eq61 : goal.returns-then-byte-eq61
returns-then-byte-eq61 c =
    let rest = c.args.rest.now in
    let i = c.loop-i.i in
    let all : take (length rest - (i + 1)) (drop (i + 1) rest) ≡ drop (i + 1) rest = take_all _ _ (omega (arith, length-drop (i + 1) rest)) in
    let long : length (take i rest) ≡ i = length-take-le i rest (omega (arith, c.loop-i-test.true)) in
    let first = get_or-take i rest 0 0 (omega (arith, c.if-i-eq0.false)) in
    let is = tag_of_digits (take i rest) (omega (arith, long, c.if-i-eq0.false)) (omega (arith, long, c.loop-i.invariant.most)) (λ zero. c.if-rest-eq48.false (sym first ∙ zero)) c.loop-i.invariant.digits in
    rw all (sym (tag_at_found rest i c.loop-i.tag c.loop-i-test.true c.if-byte-eq61.true c.loop-i.invariant.passed (is ∙ ap (λ (n : ℕ). Some n) (sym c.loop-i.invariant.value))))

pub returns-then-i-eq-MOST_TAG_DIGITS : goal.returns-then-i-eq-MOST_TAG_DIGITS
returns-then-i-eq-MOST_TAG_DIGITS c =
    let rest = c.args.rest.now in
    let i = c.loop-i.i in
    let other : eqb (get_or rest i 0) 61 ≡ false = ne_eqb _ _ c.if-byte-eq61.false in
    elim c.then-i-eq-MOST_TAG_DIGITS.branch [
      | then-i-eq-MOST_TAG_DIGITS-via-then-i-eq-MOST_TAG_DIGITS w ↦ sym (tag_at_stop_long rest i (omega (arith, w.if-i-eq-MOST_TAG_DIGITS.true)) c.loop-i-test.true other c.loop-i.invariant.passed)
      | then-i-eq-MOST_TAG_DIGITS-via-else-i-eq-MOST_TAG_DIGITS+then-not-is_ascii_digit w ↦ sym (tag_at_stop_other rest i c.loop-i-test.true other c.loop-i.invariant.passed (sym w.is_ascii_digit.ensures.value ∙ w.if-not-is_ascii_digit.true))
    ]

pub overflow_mul-tag : goal.overflow_mul-tag
overflow_mul-tag c = omega (arith, small_tag c.args.rest.now c.loop-i.i c.loop-i.tag c.loop-i.invariant.digits c.loop-i.invariant.value c.loop-i.invariant.most c.if-i-eq-MOST_TAG_DIGITS.false)

pub overflow_add-tag : goal.overflow_add-tag
overflow_add-tag c =
    let digit = c.if-not-is_ascii_digit.ensures.bound in
    omega (arith, digit, small_tag c.args.rest.now c.loop-i.i c.loop-i.tag c.loop-i.invariant.digits c.loop-i.invariant.value c.loop-i.invariant.most c.if-i-eq-MOST_TAG_DIGITS.false)

pub loop-i-preserved : goal.loop-i-preserved
loop-i-preserved c =
    let rest = c.args.rest.now in
    let i = c.loop-i.i in
    let is_digit = sym c.is_ascii_digit.ensures.value ∙ c.if-not-is_ascii_digit.false in
    let more = digits_value_more 10 rest i c.loop-i-test.true in
    let digit = digit_value_is (get_or rest i 0) is_digit in
    record {
      passed = passed_digit rest i c.loop-i-test.true is_digit c.loop-i.invariant.passed;
      digits = digits_more 10 _ i c.loop-i-test.true c.loop-i.invariant.digits (c.if-not-is_ascii_digit.ensures.bound);
      value = omega (arith, more, digit, c.loop-i.invariant.value);
      most = omega (arith, c.loop-i.invariant.most, c.if-i-eq-MOST_TAG_DIGITS.false);
    }
