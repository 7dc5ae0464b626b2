-- What is printed for bytes is read as those bytes.
use Rattle.std.proofs.Common.{◌≡◌, ℕ, suc, ◌+◌, ◌-◌, ◌*◌, ◌/◌, ◌%◌, ◌<◌, ◌≤◌, ◌==◌, ◌&&◌, ◌||◌, Bool, true, false, cond, List, [], ◌∷◌, ◌++◌, All, Some, nat_lt, refl, sym, ap, ◌∙◌, arith, eqb-true}
use Rattle.std.proofs.lemmas.Bool.{and_from}
use Rattle.std.proofs.lemmas.Bool.Decides.{nat_tests}
use Rattle.std.specs.List.{list_all}
use Rattle.std.specs.Option.{option_map, option_and_then}
use Rattle.script_text.specs.Printed.{Front, front_of_digits, escaped_byte, front_of, hex_digit_of, hex_value, is_printable, bytes_of_text, printed_text, printed_byte}
use Rattle.script_text.proofs.Texts.{bytes_of_text-nil, bytes_of_text-front, with_front}

hex_digit-small : (n : ℕ) → n < 10 → hex_digit_of n ≡ 48 + n
hex_digit-small n small = grind (arith, nat_tests)

hex_digit-large : (n : ℕ) → 10 ≤ n → hex_digit_of n ≡ 87 + n
hex_digit-large n large = grind (arith, nat_tests)

hex_value-digit : (b : ℕ) → 48 ≤ b → b ≤ 57 → hex_value b ≡ Some (b - 48)
hex_value-digit b low high = grind (arith, nat_tests)

hex_value-letter : (b : ℕ) → 97 ≤ b → b ≤ 102 → hex_value b ≡ Some (b - 87)
hex_value-letter b low high = grind (arith, nat_tests)

hex_value-hex_digit : (n : ℕ) → n < 16 → hex_value (hex_digit_of n) ≡ Some n
hex_value-hex_digit n small =
    elim (nat_lt n 10) as (λ v. nat_lt n 10 ≡ v → hex_value (hex_digit_of n) ≡ Some n) [
      | true ↦ λ e.
          let lt : n < 10 = grind (arith, nat_tests) in
          let back : 48 + n - 48 ≡ n = omega arith in
          ap hex_value (hex_digit-small n lt) ∙ hex_value-digit (48 + n) (omega arith) (omega arith) ∙ ap Some back
      | false ↦ λ e.
          let ge : 10 ≤ n = grind (arith, nat_tests) in
          let back : 87 + n - 87 ≡ n = omega arith in
          ap hex_value (hex_digit-large n ge) ∙ hex_value-letter (87 + n) (omega arith) (omega arith) ∙ ap Some back
    ] refl

abbrev front : ℕ → List ℕ → Front
front b rest = record { byte = b; left = rest }

escaped-digits : (b : ℕ) (rest : List ℕ) → b < 256 → front_of_digits (hex_digit_of (b / 16) ∷ hex_digit_of (b % 16) ∷ rest) ≡ Some (front b rest)
escaped-digits b rest byte =
    let high = hex_value-hex_digit (b / 16) (omega arith) in
    let low = hex_value-hex_digit (b % 16) (omega arith) in
    let whole : b / 16 * 16 + b % 16 ≡ b = omega arith in
    ap (option_and_then (λ h. option_map (λ l. front (h * 16 + l) rest) (hex_value (hex_digit_of (b % 16))))) high
    ∙ ap (option_map (λ l. front (b / 16 * 16 + l) rest)) low
    ∙ ap (λ n. Some (front n rest)) whole

front-escaped_byte : (b : ℕ) (rest : List ℕ) → b < 256 → front_of (escaped_byte b ++ rest) ≡ Some (front b rest)
unfolding front_of
front-escaped_byte b rest byte = escaped-digits b rest byte

front-itself : (b : ℕ) (rest : List ℕ) → (b == 124) || (b == 92) ≡ false → front_of (b ∷ rest) ≡ Some (front b rest)
unfolding front_of
front-itself b rest e = grind (arith, nat_tests)

front-bar : (rest : List ℕ) → front_of (124 ∷ rest) ≡ Some (front 1 rest)
unfolding front_of
front-bar rest = refl

-- the front of what is printed for a byte is that byte
front-printed_text : (b : ℕ) (rest : List ℕ) → b < 256 → front_of (printed_byte b ++ rest) ≡ Some (front b rest)
front-printed_text b rest byte =
    elim (b == 1) as (λ v. b == 1 ≡ v → front_of (cond v (124 ∷ []) (cond ((b == 124) || (b == 92)) (escaped_byte b) (cond (is_printable b) (b ∷ []) (escaped_byte b))) ++ rest) ≡ Some (front b rest)) [
      | true ↦ λ e. front-bar rest ∙ ap (λ n. Some (front n rest)) (sym (eqb-true b 1 e))
      | false ↦ λ _. elim ((b == 124) || (b == 92)) as (λ v. (b == 124) || (b == 92) ≡ v → front_of (cond v (escaped_byte b) (cond (is_printable b) (b ∷ []) (escaped_byte b)) ++ rest) ≡ Some (front b rest)) [
        | true ↦ λ _. front-escaped_byte b rest byte
        | false ↦ λ plain. elim (is_printable b) as (λ v. front_of (cond v (b ∷ []) (escaped_byte b) ++ rest) ≡ Some (front b rest)) [
          | true ↦ front-itself b rest plain
          | false ↦ front-escaped_byte b rest byte
        ]
      ] refl
    ] refl

pub bytes_of_text-printed_text : (bytes : List ℕ) → All (λ b. b < 256) bytes → bytes_of_text (printed_text bytes) ≡ Some bytes
bytes_of_text-printed_text [] all = bytes_of_text-nil
bytes_of_text-printed_text (b ∷ bytes) all =
    bytes_of_text-front (printed_text (b ∷ bytes)) (front b (printed_text bytes)) (front-printed_text b (printed_text bytes) (all 0 0 (omega arith)))
    ∙ ap (with_front (b ∷ [])) (bytes_of_text-printed_text bytes (λ k d h. all (suc k) d (omega arith)))

hex_digit-printable : (n : ℕ) → n < 16 → is_printable (hex_digit_of n) ≡ true
hex_digit-printable n small = grind (arith, nat_tests)

list_all-append : (p : ℕ → Bool) (xs ys : List ℕ) → list_all p xs ≡ true → list_all p ys ≡ true → list_all p (xs ++ ys) ≡ true
list_all-append p [] ys h k = k
list_all-append p (x ∷ xs) ys h k =
    elim (p x) as (λ v. v && list_all p xs ≡ true → v && list_all p (xs ++ ys) ≡ true) [
      | true ↦ λ e. list_all-append p xs ys e k
      | false ↦ λ e. e
    ] h

printable-escaped_byte : (b : ℕ) → b < 256 → list_all is_printable (escaped_byte b) ≡ true
printable-escaped_byte b byte =
    and_from _ _ (hex_digit-printable (b / 16) (omega arith)) (and_from _ _ (hex_digit-printable (b % 16) (omega arith)) refl)

printable-byte : (b : ℕ) → b < 256 → list_all is_printable (printed_byte b) ≡ true
printable-byte b byte =
    elim (b == 1) as (λ v. list_all is_printable (cond v (124 ∷ []) (cond ((b == 124) || (b == 92)) (escaped_byte b) (cond (is_printable b) (b ∷ []) (escaped_byte b)))) ≡ true) [
      | true ↦ refl
      | false ↦ elim ((b == 124) || (b == 92)) as (λ v. list_all is_printable (cond v (escaped_byte b) (cond (is_printable b) (b ∷ []) (escaped_byte b))) ≡ true) [
        | true ↦ printable-escaped_byte b byte
        | false ↦ elim (is_printable b) as (λ v. is_printable b ≡ v → list_all is_printable (cond v (b ∷ []) (escaped_byte b)) ≡ true) [
          | true ↦ λ e. and_from _ _ e refl
          | false ↦ λ _. printable-escaped_byte b byte
        ] refl
      ]
    ]

pub printable-printed_text : (bytes : List ℕ) → All (λ b. b < 256) bytes → list_all is_printable (printed_text bytes) ≡ true
printable-printed_text [] all = refl
printable-printed_text (b ∷ bytes) all =
    list_all-append is_printable (printed_byte b) (printed_text bytes) (printable-byte b (all 0 0 (omega arith))) (printable-printed_text bytes (λ k d h. all (suc k) d (omega arith)))
