-- Values without SOH.
use Rattle.std.proofs.Common.{◌≡◌, ℕ, ◌+◌, ◌^◌, ◌<◌, true, false, ◌||◌, eqb, List, [], ◌∷◌, ◌++◌, refl, ap, sym, ◌∙◌, arith}
use Rattle.std.proofs.lemmas.Bool.{and_parts, or_from, ne_eqb}
use Rattle.std.proofs.lemmas.Bool.Decides.{nat_tests}
use Rattle.std.proofs.lemmas.Fmt.{digits_decimal}
use Rattle.std.proofs.Math.Bool.{or_assoc}
use Rattle.std.specs.Char.{is_ascii_digit}
use Rattle.std.specs.Prelude.{decimal}
use Rattle.std.specs.Str.{all_ascii_digits}
use Rattle.fix_fields.specs.Field.{has_soh}
use Rattle.fix_fields.specs.Stamp.{stamp_of}
use Rattle.fix_fields.proofs.Numbers.{own}

pub has_soh-append : (xs ys : List ℕ) → has_soh (xs ++ ys) ≡ has_soh xs || has_soh ys
has_soh-append [] ys = refl
has_soh-append (x ∷ xs) ys = ap (λ b. eqb x 1 || b) (has_soh-append xs ys) ∙ sym (or_assoc (eqb x 1) (has_soh xs) (has_soh ys))

digit_plain : (byte : ℕ) → is_ascii_digit byte ≡ true → eqb byte 1 ≡ false
digit_plain byte digit = grind (arith, nat_tests)

pub has_soh-digits : (bytes : List ℕ) → all_ascii_digits bytes ≡ true → has_soh bytes ≡ false
has_soh-digits [] digits = refl
has_soh-digits (byte ∷ bytes) digits =
    let parts = and_parts (is_ascii_digit byte) (all_ascii_digits bytes) digits in
    or_from _ _ (digit_plain byte parts.0) (has_soh-digits bytes parts.1)

pub has_soh-decimal : (n : ℕ) → n < 2 ^ 64 → has_soh (decimal n) ≡ false
has_soh-decimal n fits = has_soh-digits (decimal n) (digits_decimal own n fits)

code_plain : (n : ℕ) → eqb (48 + n) 1 ≡ false
code_plain n = ne_eqb (48 + n) 1 (λ e. omega (arith, e))

pub has_soh-stamp_of : (ms : ℕ) → has_soh (stamp_of ms) ≡ false
has_soh-stamp_of ms = simp code_plain
