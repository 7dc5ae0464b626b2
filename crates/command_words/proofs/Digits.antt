-- A text of digits is the number that `parse` reads.
use Rattle.std.proofs.Common.{◌≡◌, ◌<◌, ◌≤◌, ◌^◌, ℕ, Bool, true, List, [], ◌∷◌, Result, Ok, Err, ap, refl, arith, length}
use Rattle.std.specs.Prelude.{◌&&◌}
use Rattle.std.specs.Char.{is_ascii_digit}
use Rattle.std.specs.List.{list_all}
use Rattle.std.specs.Str.{all_ascii_digits}
use Rattle.std.specs.Str.Parse.{ParsesUnsigned, digits_value}
use Rattle.std.specs.Result.{OkIff, result_ok}
use Rattle.std.proofs.lemmas.Bool.Decides.{nat_tests}
use Rattle.std.proofs.lemmas.Str.Parse.{IsNumeralModel, numerals_by_value, parse_digits, tells_all_ascii_digits}
use Rattle.script_text.specs.Words.{natural_of}

pub digits_are : (bytes : List ℕ) → all_ascii_digits bytes ≡ list_all is_ascii_digit bytes
digits_are [] = refl
digits_are (b ∷ bytes) = ap (λ (x : Bool). is_ascii_digit b && x) (digits_are bytes)

own : IsNumeralModel (λ bytes. all_ascii_digits bytes ≡ true) (digits_value 10)
own = numerals_by_value (λ bytes. all_ascii_digits bytes ≡ true) tells_all_ascii_digits

pub number_kept : {E : Type 0} (word : List ℕ) (r : Result ℕ E) → all_ascii_digits word ≡ true → length word ≤ 20 → ParsesUnsigned 64 10 word r → result_ok r ≡ natural_of word
unfolding natural_of
number_kept {E} word (Ok n) digits few parsed =
    let read : OkIff {E = E} (Ok n) ((0 < length word) × (digits_value 10 word < 2 ^ 64)) (digits_value 10 word) = parse_digits own {E = E} 64 word (Ok n) parsed digits in
    let some : 0 < length word = read.0.0 in
    let fits : digits_value 10 word < 2 ^ 64 = read.0.1 in
    let same : n ≡ digits_value 10 word = read.1 in
    grind (arith, nat_tests)
number_kept {E} word (Err e) digits few parsed =
    let read = parse_digits own {E = E} 64 word (Err e) parsed digits in
    let curried : 0 < length word → digits_value 10 word < 2 ^ 64 → ⊥ = λ some fits. read (some, fits) in
    grind (arith, nat_tests, curried)
