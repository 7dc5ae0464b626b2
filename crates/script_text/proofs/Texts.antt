-- The bytes that a text stands for.
use Rattle.std.proofs.Common.{◌≡◌, ℕ, zero, suc, ◌+◌, ◌*◌, ◌<◌, ◌≤◌, ◌==◌, true, false, cond, List, [], ◌∷◌, ◌++◌, length, Option, Some, None, refl, sym, ap, ◌∙◌, append_assoc, append-nil, arith}
use Rattle.std.specs.Option.{option_map, option_and_then}
use Rattle.script_text.specs.Printed.{Front, front_of, front_of_digits, hex_value, bytes_of_text_within, bytes_of_text}

-- with more bytes in front
abbrev pub with_front : List ℕ → Option (List ℕ) → Option (List ℕ)
with_front front text = option_map (λ bytes. front ++ bytes) text

escaped_shorter : (text : List ℕ) (front : Front) → front_of_digits text ≡ Some front → length front.left < length text
escaped_shorter [] front e = cc
escaped_shorter (h ∷ []) front e = cc
escaped_shorter (h ∷ l ∷ left) front e =
    elim (hex_value h) as (λ v. option_and_then (λ high. option_map (λ low. record { byte = high * 16 + low; left = left }) (hex_value l)) v ≡ Some front → length front.left < length (h ∷ l ∷ left)) [
      | None ↦ λ n. cc
      | Some high ↦ elim (hex_value l) as (λ v. option_map (λ low. record { byte = high * 16 + low; left = left }) v ≡ Some front → length front.left < length (h ∷ l ∷ left)) [
        | None ↦ λ n. cc
        | Some low ↦ λ s. let same : left ≡ front.left = cc in rw (← same) (omega arith)
      ]
    ] e

pub front_shorter : (text : List ℕ) (front : Front) → front_of text ≡ Some front → length front.left < length text
unfolding front_of
front_shorter [] front e = cc
front_shorter (b ∷ left) front e =
    elim (b == 124) as (λ v. cond v (Some (record { byte = 1; left = left })) (cond (b == 92) (front_of_digits left) (Some (record { byte = b; left = left }))) ≡ Some front → length front.left < length (b ∷ left)) [
      | true ↦ λ s. let same : left ≡ front.left = cc in rw (← same) (omega arith)
      | false ↦ elim (b == 92) as (λ v. cond v (front_of_digits left) (Some (record { byte = b; left = left })) ≡ Some front → length front.left < length (b ∷ left)) [
        | true ↦ λ s. omega (arith, escaped_shorter left front s)
        | false ↦ λ s. let same : left ≡ front.left = cc in rw (← same) (omega arith)
      ]
    ] e

abbrev onto : ℕ → (List ℕ → Option (List ℕ)) → Option Front → Option (List ℕ)
onto n rest front = option_and_then (λ (unit : Front). option_map (λ bytes. unit.byte ∷ bytes) (rest unit.left)) front

within-step : (n b : ℕ) (left : List ℕ) → bytes_of_text_within (suc n) (b ∷ left) ≡ onto n (bytes_of_text_within n) (front_of (b ∷ left))
unfolding bytes_of_text_within
within-step n b left = refl

within-nil : (n : ℕ) → bytes_of_text_within n [] ≡ Some []
unfolding bytes_of_text_within
within-nil zero = refl
within-nil (suc n) = refl

-- the count doesn't matter, as long as it is large enough
same_within : (n m : ℕ) (text : List ℕ) → length text ≤ n → length text ≤ m → bytes_of_text_within n text ≡ bytes_of_text_within m text
same_within n m [] h k = within-nil n ∙ sym (within-nil m)
same_within zero m (b ∷ left) h k = absurd (omega arith)
same_within (suc n) zero (b ∷ left) h k = absurd (omega arith)
same_within (suc n) (suc m) (b ∷ left) h k =
    within-step n b left
    ∙ (elim (front_of (b ∷ left)) as (λ v. front_of (b ∷ left) ≡ v → onto n (bytes_of_text_within n) v ≡ onto m (bytes_of_text_within m) v) [
      | None ↦ λ e. refl
      | Some front ↦ λ e.
          let less = front_shorter (b ∷ left) front e in
          ap (option_map (λ bytes. front.byte ∷ bytes)) (same_within n m front.left (omega arith) (omega arith))
    ] refl)
    ∙ sym (within-step m b left)

pub bytes_of_text-nil : bytes_of_text [] ≡ Some []
unfolding bytes_of_text
bytes_of_text-nil = within-nil 0

-- the byte at the front, and then those of what follows it
pub bytes_of_text-front : (text : List ℕ) (front : Front) → front_of text ≡ Some front → bytes_of_text text ≡ with_front (front.byte ∷ []) (bytes_of_text front.left)
unfolding bytes_of_text
bytes_of_text-front [] front e = absurd (omega (arith, front_shorter [] front e))
bytes_of_text-front (b ∷ left) front e =
    let less = front_shorter (b ∷ left) front e in
    within-step (length left) b left
    ∙ ap (onto (length left) (bytes_of_text_within (length left))) e
    ∙ ap (option_map (λ bytes. front.byte ∷ bytes)) (same_within (length left) (length front.left) front.left (omega arith) (omega arith))

pub bytes_of_text-no_front : (b : ℕ) (left : List ℕ) → front_of (b ∷ left) ≡ None → bytes_of_text (b ∷ left) ≡ None
unfolding bytes_of_text
bytes_of_text-no_front b left e = within-step (length left) b left ∙ ap (onto (length left) (bytes_of_text_within (length left))) e

-- in a loop: the bytes so far, and those for which the rest stands
with_front-more : (bytes : List ℕ) (b : ℕ) (rest : Option (List ℕ)) → with_front bytes (with_front (b ∷ []) rest) ≡ with_front (bytes ++ b ∷ []) rest
with_front-more bytes b None = refl
with_front-more bytes b (Some more) = ap Some (sym (append_assoc bytes (b ∷ []) more))

pub reading_start : (text : List ℕ) → with_front [] (bytes_of_text text) ≡ bytes_of_text text
reading_start text = elim (bytes_of_text text) as (λ v. with_front [] v ≡ v) [ None ↦ refl | Some bytes ↦ refl ]

pub reading_front : (bytes text rest : List ℕ) (front : Front) → front_of rest ≡ Some front → with_front bytes (bytes_of_text rest) ≡ bytes_of_text text → with_front (bytes ++ front.byte ∷ []) (bytes_of_text front.left) ≡ bytes_of_text text
reading_front bytes text rest front found so_far =
    sym (with_front-more bytes front.byte (bytes_of_text front.left)) ∙ ap (with_front bytes) (sym (bytes_of_text-front rest front found)) ∙ so_far

pub reading_fault : (bytes text rest : List ℕ) → 0 < length rest → front_of rest ≡ None → with_front bytes (bytes_of_text rest) ≡ bytes_of_text text → None ≡ bytes_of_text text
reading_fault bytes text [] some none so_far = absurd (omega arith)
reading_fault bytes text (b ∷ left) some none so_far = sym (ap (with_front bytes) (bytes_of_text-no_front b left none)) ∙ so_far

pub reading_end : (bytes text rest : List ℕ) → length rest ≡ 0 → with_front bytes (bytes_of_text rest) ≡ bytes_of_text text → Some bytes ≡ bytes_of_text text
reading_end bytes text [] none so_far = ap Some (sym (append-nil bytes)) ∙ sym (ap (with_front bytes) bytes_of_text-nil) ∙ so_far
reading_end bytes text (b ∷ left) none so_far = absurd (omega arith)
