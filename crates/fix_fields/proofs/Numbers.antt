-- When bytes are a number or a tag.
use Rattle.std.proofs.Common.{◌≡◌, ℕ, zero, suc, ◌-◌, ◌^◌, ◌<◌, ◌≤◌, not, Bool, true, false, ◌&&◌, ◌⊎◌, inl, inr, lit≤, lit<, List, [], ◌∷◌, length, get_or, take, Option, Some, None, nat_le, refl, sym, ap, ◌∙◌, arith, cond}
use Rattle.std.proofs.lemmas.Bool.Decides.{nat_tests}
use Rattle.std.proofs.lemmas.Str.Parse.{IsNumeralModel, numerals_by_value, tells_all_ascii_digits, digits_value-take-le}
use Rattle.std.proofs.lemmas.Str.Parse.{digits_value_short}
use Rattle.std.proofs.lemmas.Bool.{cases_lt, and_parts, leb-true, le-leb, eqb-false, ne_eqb, not-true}
use Rattle.std.proofs.lemmas.Option.{cond_some, none-some}
use Rattle.std.proofs.lemmas.Fmt.{decimal-digits_value, decimal_digit, length-decimal-le, first_decimal, decimal_nonempty, digits_decimal, digits_value-decimal}
use Rattle.std.specs.Prelude.{decimal, ◌==◌}
use Rattle.std.specs.Char.{is_ascii_digit, digit_value}
use Rattle.std.specs.Str.{all_ascii_digits}
use Rattle.std.specs.Str.Parse.{digits_value, AllDigits}
use Rattle.fix_fields.specs.declared.limits.TheConstants.{LAST_TAG}
use Rattle.fix_fields.specs.Number.{is_number, number_of, tag_of}

-- std's words for digits and their value
pub own : IsNumeralModel (λ ds. all_ascii_digits ds ≡ true) (digits_value 10)
own = numerals_by_value _ tells_all_ascii_digits

and-false : (b : Bool) → b && false ≡ false
and-false true = refl
and-false false = refl

is_number_not_digits : (bytes : List ℕ) → all_ascii_digits bytes ≡ false → is_number bytes ≡ false
is_number_not_digits bytes e = grind (arith, nat_tests, and-false)

is_number_not_large : (bytes : List ℕ) → 4_294_967_295 < digits_value 10 bytes → is_number bytes ≡ false
is_number_not_large bytes h = grind (arith, nat_tests, and-false)

is_number_not_length : (bytes : List ℕ) → (length bytes ≡ 0) ⊎ (20 < length bytes) → is_number bytes ≡ false
is_number_not_length bytes (inl h) = grind (arith, nat_tests, and-false)
is_number_not_length bytes (inr h) = grind (arith, nat_tests, and-false)

is_number_true : (bytes : List ℕ) → 0 < length bytes → length bytes ≤ 20 → all_ascii_digits bytes ≡ true → digits_value 10 bytes ≤ 4_294_967_295 → is_number bytes ≡ true
is_number_true bytes h k d v = grind (arith, nat_tests, and-false)

-- one byte that is no digit
pub all_ascii_digits_not : (bytes : List ℕ) (i : ℕ) → i < length bytes → is_ascii_digit (get_or bytes i 0) ≡ false → all_ascii_digits bytes ≡ false
all_ascii_digits_not [] i h e = absurd (omega arith)
all_ascii_digits_not (b ∷ bs) zero h e = rw e refl
all_ascii_digits_not (b ∷ bs) (suc i) h e = rw (all_ascii_digits_not bs i (omega arith) e) (and-false (is_ascii_digit b))

pub number_of_not : (bytes : List ℕ) → is_number bytes ≡ false → number_of bytes ≡ None
unfolding number_of
number_of_not bytes e = rw e refl

pub number_of_is : (bytes : List ℕ) → is_number bytes ≡ true → number_of bytes ≡ Some (digits_value 10 bytes)
unfolding number_of
number_of_is bytes e = rw e refl

pub number_of_not_digit : (bytes : List ℕ) (i : ℕ) → i < length bytes → is_ascii_digit (get_or bytes i 0) ≡ false → number_of bytes ≡ None
number_of_not_digit bytes i h e = number_of_not bytes (is_number_not_digits bytes (all_ascii_digits_not bytes i h e))

pub number_of_large : (bytes : List ℕ) (i : ℕ) → 4_294_967_295 < digits_value 10 (take i bytes) → number_of bytes ≡ None
number_of_large bytes i h = number_of_not bytes (is_number_not_large bytes (omega (arith, digits_value-take-le 10 bytes i (lit≤ tt))))

pub number_of_not_length : (bytes : List ℕ) → (length bytes ≡ 0) ⊎ (20 < length bytes) → number_of bytes ≡ None
number_of_not_length bytes h = number_of_not bytes (is_number_not_length bytes h)

pub number_of_digits : (bytes : List ℕ) → 0 < length bytes → length bytes ≤ 20 → AllDigits 10 bytes → digits_value 10 bytes ≤ 4_294_967_295 → number_of bytes ≡ Some (digits_value 10 bytes)
number_of_digits bytes h k d v = number_of_is bytes (is_number_true bytes h k (own.from bytes d) v)

-- the value of a digit
pub digit_value_is : (byte : ℕ) → is_ascii_digit byte ≡ true → digit_value byte ≡ byte - 48
digit_value_is byte e = grind (arith, nat_tests)

-- a number is digits, at most twenty, and their value
pub record IsNumber (bytes : List ℕ) (n : ℕ) : Type 0 where
  pub filled : 0 < length bytes
  pub short : length bytes ≤ 20
  pub digits : all_ascii_digits bytes ≡ true
  pub value : digits_value 10 bytes ≡ n
  pub bound : n ≤ 4_294_967_295

pub IsNumber-from : (bytes : List ℕ) (n : ℕ) → number_of bytes ≡ Some n → IsNumber bytes n
unfolding number_of
IsNumber-from bytes n e =
    let got = cond_some (is_number bytes) _ _ e in
    let last = and_parts (nat_le 1 (length bytes) && nat_le (length bytes) 20 && all_ascii_digits bytes) (nat_le (digits_value 10 bytes) 4_294_967_295) got.0 in
    let third = and_parts (nat_le 1 (length bytes) && nat_le (length bytes) 20) (all_ascii_digits bytes) last.0 in
    let second = and_parts (nat_le 1 (length bytes)) (nat_le (length bytes) 20) third.0 in
    record {
      filled = omega (arith, leb-true _ _ second.0);
      short = leb-true _ _ second.1;
      digits = third.1;
      value = got.1;
      bound = omega (arith, leb-true _ _ last.1, got.1);
    }

pub number_of-from : (bytes : List ℕ) (n : ℕ) → IsNumber bytes n → number_of bytes ≡ Some n
number_of-from bytes n is =
    number_of_is bytes (is_number_true bytes is.filled is.short is.digits (omega (arith, is.value, is.bound))) ∙ ap Some is.value

-- a tag is the digits that std writes for it
pub record IsTag (bytes : List ℕ) (tag : ℕ) : Type 0 where
  pub text : bytes ≡ decimal tag
  pub from : 1 ≤ tag
  pub to : tag ≤ LAST_TAG

cond_some_of : (b : Bool) (o : Option ℕ) (n : ℕ) → cond b o None ≡ Some n → (b ≡ true) × (o ≡ Some n)
cond_some_of true o n e = (refl, e)
cond_some_of false o n e = absurd (none-some _ e)

pub IsTag-from : (bytes : List ℕ) (tag : ℕ) → tag_of bytes ≡ Some tag → IsTag bytes tag
unfolding tag_of
IsTag-from bytes tag e =
    let got = cond_some_of (nat_le (length bytes) 9 && not (get_or bytes 0 0 == 48)) _ _ e in
    let tests = and_parts _ _ got.0 in
    let no_zero : get_or bytes 0 0 ≡ 48 → ⊥ = eqb-false _ _ (not-true _ tests.1) in
    let is = IsNumber-from bytes tag got.1 in
    let small = digits_value_short own bytes 9 is.digits (leb-true _ _ tests.0) in
    let text : bytes ≡ decimal tag =
    sym (decimal-digits_value own bytes is.digits is.filled (λ zero. absurd (no_zero zero)) (omega (arith, is.value, is.bound))) ∙ ap decimal is.value
    in
    record {
      text = text;
      from = elim (cases_lt 0 tag) [
        | inl some ↦ some
        | inr none ↦
            let zero : tag ≡ 0 = omega arith in
            absurd (no_zero (ap (λ (xs : List ℕ). get_or xs 0 0) (text ∙ ap decimal zero ∙ decimal_digit 0 (lit< tt))))
      ];
      to = omega (arith, small, is.value);
    }

pub tag_of-decimal : (tag : ℕ) → 1 ≤ tag → tag ≤ LAST_TAG → tag_of (decimal tag) ≡ Some tag
unfolding tag_of
tag_of-decimal tag from to =
    let fits : tag < 2 ^ 64 = omega arith in
    let length_is = length-decimal-le 9 tag (lit< tt) (omega arith) fits in
    let first = first_decimal tag from fits in
    let short : nat_le (length (decimal tag)) 9 ≡ true = le-leb _ _ length_is in
    let no_zero : (get_or (decimal tag) 0 0 == 48) ≡ false = ne_eqb _ _ (λ zero. omega (arith, zero, first)) in
    let is : IsNumber (decimal tag) tag = record {
      filled = decimal_nonempty tag fits;
      short = omega (arith, length_is);
      digits = digits_decimal own tag fits;
      value = digits_value-decimal own tag fits;
      bound = omega arith;
    } in
    rw (short, no_zero) (number_of-from _ _ is)

-- what std writes for a number is one
pub number_of-decimal : (n : ℕ) → n ≤ 4_294_967_295 → number_of (decimal n) ≡ Some n
number_of-decimal n low =
    let fits : n < 2 ^ 64 = omega arith in
    number_of-from _ _ (record {
      filled = decimal_nonempty n fits;
      short = omega (arith, length-decimal-le 10 n (lit< tt) (omega arith) fits);
      digits = digits_decimal own n fits;
      value = digits_value-decimal own n fits;
      bound = low;
    })
