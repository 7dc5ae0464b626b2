use Rattle.std.proofs.Common.{◌≡◌, ℕ, ◌/◌, arith}
use Rattle.fix_fields.proofs.stamp.stamp_text.Goals as goal

div-one : (n : ℕ) → n / 1 ≡ n
div-one n = omega arith

-- each digit is that of the definition, whose last ones are divided by 1
pub returns : goal.returns
returns c =
    simp (
      c.date_of-year.ensures,
      c.digit.ensures,
      c.digit-2.ensures,
      c.digit-3.ensures,
      c.digit-4.ensures,
      c.digit-5.ensures,
      c.digit-6.ensures,
      c.digit-7.ensures,
      c.digit-8.ensures,
      c.digit-9.ensures,
      c.digit-10.ensures,
      c.digit-11.ensures,
      c.digit-12.ensures,
      c.digit-13.ensures,
      c.digit-14.ensures,
      c.digit-15.ensures,
      c.digit-16.ensures,
      c.digit-17.ensures,
      div-one,
    )
