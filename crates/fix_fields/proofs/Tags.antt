-- A loop that reads the tag at the front of bytes.
use Rattle.std.proofs.Common.{◌≡◌, ℕ, ◌+◌, ◌^◌, ◌<◌, ◌≤◌, not, List, [], ◌++◌, length, get_or, take, drop, Option, Some, None, is_some, Result, Ok, Err, true, false, ◌&&◌, Bool, cond, eqb, nat_le, inl, inr, refl, ap, ◌∙◌, length-append, arith}
use Rattle.std.proofs.lemmas.Bool.{cases_Bool, le-leb, ne_eqb, eq-eqb}
use Rattle.std.proofs.lemmas.Bool.Decides.{nat_tests}
use Rattle.std.proofs.Math.ListN.{get_or-append}
use Rattle.std.proofs.lemmas.List.{length-take-le, length-take, get_or-take}
use Rattle.std.proofs.lemmas.Str.Parse.{digits_value_short}
use Rattle.std.specs.Char.{is_ascii_digit}
use Rattle.std.specs.Option.{option_map, option_and_then, ok_or}
use Rattle.std.specs.Str.Parse.{digits_value, AllDigits}
use Rattle.std.specs.Prelude.{◌==◌, if◌then◌else◌}
use Rattle.fix_fields.specs.Number.{number_of, tag_of}
use Rattle.fix_fields.specs.Field.{Field}
use Rattle.fix_fields.specs.Reading.{◌>>=◌, split_at_equals, tag_at, tag_fault, value_at, field_at}
use Rattle.fix_fields.specs.declared.reading.Fault.{Fault}
use Rattle.fix_fields.specs.declared.reading.Fault.TheVariants.{NoEquals, BadTag, EmptyValue}
use Rattle.fix_fields.proofs.Numbers.{own, number_of_not_length, number_of_not_digit, number_of_digits}
use Rattle.fix_fields.proofs.Splits.{Parts, Passed, with_front, passed_more, passed_found, passed_stop, passed_all}

cond_none : (b : Bool) → ◌≡◌ {A = Option ℕ} (cond b None None) None
cond_none true = refl
cond_none false = refl

and-not : (b : Bool) → b && not true ≡ false
and-not true = refl
and-not false = refl

-- where the digits would be no number, they are no tag
tag_of_no_number : (bytes : List ℕ) → number_of bytes ≡ None → tag_of bytes ≡ None
unfolding tag_of
tag_of_no_number bytes none = rw none (cond_none (nat_le (length bytes) 9 && not (get_or bytes 0 0 == 48)))

-- digits that don't begin with 0, at most nine, are a tag
pub tag_of_digits : (bytes : List ℕ) → 0 < length bytes → length bytes ≤ 9 → (get_or bytes 0 0 ≡ 48 → ⊥) → AllDigits 10 bytes → tag_of bytes ≡ Some (digits_value 10 bytes)
unfolding tag_of
tag_of_digits bytes some most first digits =
    let short : nat_le (length bytes) 9 ≡ true = le-leb _ _ most in
    let no_zero : (get_or bytes 0 0 == 48) ≡ false = ne_eqb _ _ first in
    let small = digits_value_short own bytes 9 (own.from bytes digits) most in
    rw (short, no_zero) (number_of_digits bytes some (omega arith) digits (omega (arith, small)))

pub tag_of_nil : tag_of [] ≡ None
tag_of_nil = tag_of_no_number [] (number_of_not_length [] (inl refl))

pub tag_of_zero : (bytes : List ℕ) → get_or bytes 0 0 ≡ 48 → tag_of bytes ≡ None
unfolding tag_of
tag_of_zero bytes first =
    let zero : (get_or bytes 0 0 == 48) ≡ true = eq-eqb _ _ first in
    rw (zero, and-not (nat_le (length bytes) 9)) refl

pub tag_of_long : (bytes : List ℕ) → 9 < length bytes → tag_of bytes ≡ None
unfolding tag_of
tag_of_long bytes long =
    let short : nat_le (length bytes) 9 ≡ false = grind (arith, nat_tests) in
    rw short refl

pub tag_of_other : (bytes : List ℕ) (i : ℕ) → i < length bytes → is_ascii_digit (get_or bytes i 0) ≡ false → tag_of bytes ≡ None
tag_of_other bytes i within other = tag_of_no_number bytes (number_of_not_digit bytes i within other)

-- where `=` was found behind the first bytes
pub tag_at_found : (bytes : List ℕ) (i tag : ℕ) → i < length bytes → get_or bytes i 0 ≡ 61 → Passed split_at_equals bytes i → tag_of (take i bytes) ≡ Some tag → tag_at bytes ≡ Some (tag, drop (i + 1) bytes)
unfolding tag_at
tag_at_found bytes i tag within here passed is =
    let split = passed_found split_at_equals bytes i within (rw here refl) passed in
    rw (split, is) refl

pub tag_at_found_none : (bytes : List ℕ) (i : ℕ) → i < length bytes → get_or bytes i 0 ≡ 61 → Passed split_at_equals bytes i → tag_of (take i bytes) ≡ None → tag_at bytes ≡ None
unfolding tag_at
tag_at_found_none bytes i within here passed is =
    let split = passed_found split_at_equals bytes i within (rw here refl) passed in
    rw (split, is) refl

-- one more byte that is neither `=` nor SOH
pub passed_byte : (bytes : List ℕ) (i : ℕ) → i < length bytes → eqb (get_or bytes i 0) 61 ≡ false → eqb (get_or bytes i 0) 1 ≡ false → Passed split_at_equals bytes i → Passed split_at_equals bytes (i + 1)
passed_byte bytes i within no_equals no_soh passed = passed_more split_at_equals bytes i within (rw (no_equals, no_soh) refl) passed

-- the tag of the first part
abbrev pub tag_in : Parts → Option (ℕ × List ℕ)
tag_in parts = option_map (λ tag. (tag, parts.1)) (tag_of parts.0)

none_among : (front : List ℕ) (o : Option Parts) → ((more : List ℕ) → tag_of (front ++ more) ≡ None) → option_and_then tag_in (option_map (with_front front) o) ≡ None
none_among front None none = refl
none_among front (Some parts) none = rw (none parts.0) refl

-- where these bytes and the next one, which isn't `=`, are no beginning of a tag
pub tag_at_stop : (bytes : List ℕ) (i : ℕ) → i < length bytes → eqb (get_or bytes i 0) 61 ≡ false → Passed split_at_equals bytes i → ((more : List ℕ) → tag_of (take (i + 1) bytes ++ more) ≡ None) → tag_at bytes ≡ None
unfolding tag_at
tag_at_stop bytes i within other passed none =
    elim (cases_Bool (eqb (get_or bytes i 0) 1)) [
      | inl soh ↦ let split = passed_stop split_at_equals bytes i within (rw (other, soh) refl) passed in rw split refl
      | inr no_soh ↦
          let split : split_at_equals bytes ≡ option_map (with_front (take (i + 1) bytes)) (split_at_equals (drop (i + 1) bytes)) = passed_byte bytes i within other no_soh passed in
          rw split (none_among (take (i + 1) bytes) (split_at_equals (drop (i + 1) bytes)) none)
    ]

-- where there is no `=`
pub tag_at_end : (bytes : List ℕ) (i : ℕ) → length bytes ≤ i → Passed split_at_equals bytes i → tag_at bytes ≡ None
unfolding tag_at
tag_at_end bytes i past passed = let split = passed_all split_at_equals bytes i past refl passed in rw split refl

long_take : (bytes : List ℕ) (i : ℕ) (more : List ℕ) → i < length bytes → length (take (i + 1) bytes ++ more) ≡ i + 1 + length more
long_take bytes i more within = omega (arith, length-append (take (i + 1) bytes) more, length-take-le (i + 1) bytes (omega arith))

same_byte : (bytes : List ℕ) (i : ℕ) (more : List ℕ) → i < length bytes → get_or (take (i + 1) bytes ++ more) i 0 ≡ get_or bytes i 0
same_byte bytes i more within =
    get_or-append (take (i + 1) bytes) more 0 i (omega (arith, length-take-le (i + 1) bytes (omega arith))) ∙ get_or-take (i + 1) bytes i 0 (omega arith)

-- ten digits are too many
pub tag_at_stop_long : (bytes : List ℕ) (i : ℕ) → i ≡ 9 → i < length bytes → eqb (get_or bytes i 0) 61 ≡ false → Passed split_at_equals bytes i → tag_at bytes ≡ None
tag_at_stop_long bytes i nine within other passed =
    tag_at_stop bytes i within other passed (λ more. tag_of_long (take (i + 1) bytes ++ more) (omega (arith, long_take bytes i more within)))

-- a byte that is no digit
pub tag_at_stop_other : (bytes : List ℕ) (i : ℕ) → i < length bytes → eqb (get_or bytes i 0) 61 ≡ false → Passed split_at_equals bytes i → is_ascii_digit (get_or bytes i 0) ≡ false → tag_at bytes ≡ None
tag_at_stop_other bytes i within other passed no_digit =
    tag_at_stop bytes i within other passed (λ more. tag_of_other (take (i + 1) bytes ++ more) i (omega (arith, long_take bytes i more within)) (ap is_ascii_digit (same_byte bytes i more within) ∙ no_digit))

-- eight digits at most
pub small_tag : (bytes : List ℕ) (i tag : ℕ) → AllDigits 10 (take i bytes) → tag ≡ digits_value 10 (take i bytes) → i ≤ 9 → (i ≡ 9 → ⊥) → tag < 10 ^ 8
small_tag bytes i tag digits value most not_nine =
    omega (arith, value, digits_value_short own (take i bytes) 8 (own.from (take i bytes) digits) (omega (arith, length-take i bytes, not_nine)))

-- one more digit
pub passed_digit : (bytes : List ℕ) (i : ℕ) → i < length bytes → is_ascii_digit (get_or bytes i 0) ≡ true → Passed split_at_equals bytes i → Passed split_at_equals bytes (i + 1)
passed_digit bytes i within digit passed =
    let passes : (eqb (get_or bytes i 0) 61 ≡ false) × (eqb (get_or bytes i 0) 1 ≡ false) = grind (arith, nat_tests) in
    passed_byte bytes i within passes.0 passes.1 passed

-- a field is its tag, and behind it a value that isn't empty
abbrev pub with_tag : Field → ℕ × List ℕ → Result (Field × List ℕ) Fault
with_tag before front = do
  found ← value_at before front.0 front.1
  if length found.0 == 0 then Err EmptyValue else Ok (record { tag = front.0; value = found.0 }, found.1)

cases_of : (before : Field) (o : Option Parts) → (ok_or o NoEquals >>= λ parts. ok_or (tag_of parts.0) BadTag >>= λ tag. with_tag before (tag, parts.1)) ≡ (ok_or (option_and_then tag_in o) (cond (is_some o) BadTag NoEquals) >>= with_tag before)
cases_of before None = refl
cases_of before (Some parts) = among (tag_of parts.0)
  where
    among : (o : Option ℕ) → (ok_or o BadTag >>= λ tag. with_tag before (tag, parts.1)) ≡ (ok_or (option_map (λ (tag : ℕ). (tag, parts.1)) o) BadTag >>= with_tag before)
    among None = refl
    among (Some tag) = refl

field_at_cases : (before : Field) (bytes : List ℕ) → field_at before bytes ≡ (ok_or (tag_at bytes) (tag_fault bytes) >>= with_tag before)
unfolding field_at tag_at
field_at_cases before bytes = cases_of before (split_at_equals bytes)

field_at_tag : (before : Field) (bytes tail : List ℕ) (tag : ℕ) → tag_at bytes ≡ Some (tag, tail) → field_at before bytes ≡ with_tag before (tag, tail)
field_at_tag before bytes tail tag e = field_at_cases before bytes ∙ rw e refl

pub field_at_fault : (before : Field) (bytes tail : List ℕ) (tag : ℕ) (fault : Fault) → tag_at bytes ≡ Some (tag, tail) → value_at before tag tail ≡ Err fault → field_at before bytes ≡ Err fault
field_at_fault before bytes tail tag fault e f = field_at_tag before bytes tail tag e ∙ rw f refl

pub field_at_empty : (before : Field) (bytes tail value after : List ℕ) (tag : ℕ) → tag_at bytes ≡ Some (tag, tail) → value_at before tag tail ≡ Ok (value, after) → length value ≡ 0 → field_at before bytes ≡ Err EmptyValue
field_at_empty before bytes tail value after tag e f none = field_at_tag before bytes tail tag e ∙ rw (f, none) refl

pub field_at_found : (before : Field) (bytes tail value after : List ℕ) (tag : ℕ) → tag_at bytes ≡ Some (tag, tail) → value_at before tag tail ≡ Ok (value, after) → (length value == 0) ≡ false → field_at before bytes ≡ Ok (record { tag = tag; value = value }, after)
field_at_found before bytes tail value after tag e f some = field_at_tag before bytes tail tag e ∙ rw (f, some) refl

pub field_at_no_tag : (before : Field) (bytes : List ℕ) → tag_at bytes ≡ None → field_at before bytes ≡ Err (tag_fault bytes)
field_at_no_tag before bytes e = field_at_cases before bytes ∙ rw e refl
