-- What stands at a place of joined lists, and what a look-up tells.
use Rattle.std.proofs.Common.{◌≡◌, ℕ, zero, suc, ◌+◌, ◌<◌, ◌≤◌, ◌↔◌, List, [], ◌∷◌, ◌++◌, length, take, drop, Option, Some, None, IsNone, refl, sym, ap, ◌∙◌, inl, inr, arith, zero-add, true, is_some}
use Rattle.std.specs.List.{slice_get}
use Rattle.std.specs.Option.{option_copied}
use Rattle.std.specs.Borrow.{Bor}
use Rattle.std.proofs.lemmas.Bool.{cases_lt, false≢true}
use Rattle.std.proofs.lemmas.Option.{slice_get_past}

pub slice_get-append_left : {X : Type 0} (xs ys : List X) (i : ℕ) → i < length xs → slice_get (xs ++ ys) i ≡ slice_get xs i
slice_get-append_left [] ys i h = absurd (omega arith)
slice_get-append_left (x ∷ xs) ys zero h = refl
slice_get-append_left (x ∷ xs) ys (suc i) h = slice_get-append_left xs ys i (omega arith)

pub slice_get-append_right : {X : Type 0} (xs ys : List X) (i : ℕ) → slice_get (xs ++ ys) (length xs + i) ≡ slice_get ys i
slice_get-append_right [] ys i = ap (λ n. slice_get ys n) (zero-add i)
slice_get-append_right (x ∷ xs) ys i =
    let next : suc (length xs) + i ≡ suc (length xs + i) = omega arith in
    ap (λ n. slice_get (x ∷ (xs ++ ys)) n) next ∙ slice_get-append_right xs ys i

pub slice_get-take : {X : Type 0} (n : ℕ) (xs : List X) (i : ℕ) → i < n → slice_get (take n xs) i ≡ slice_get xs i
slice_get-take zero xs i h = absurd (omega arith)
slice_get-take (suc n) [] i h = refl
slice_get-take (suc n) (x ∷ xs) zero h = refl
slice_get-take (suc n) (x ∷ xs) (suc i) h = slice_get-take n xs i (omega arith)

pub slice_get-drop : {X : Type 0} (n : ℕ) (xs : List X) (i : ℕ) → slice_get (drop n xs) i ≡ slice_get xs (n + i)
slice_get-drop zero xs i = ap (λ k. slice_get xs k) (sym (zero-add i))
slice_get-drop (suc n) [] i = refl
slice_get-drop (suc n) (x ∷ xs) i =
    let next : suc n + i ≡ suc (n + i) = omega arith in
    slice_get-drop n xs i ∙ ap (λ k. slice_get (x ∷ xs) k) (sym next)

pub is_some_within : {X : Type 0} (xs : List X) (i : ℕ) → i < length xs → is_some (slice_get xs i) ≡ true
is_some_within [] i h = absurd (omega arith)
is_some_within (x ∷ xs) zero h = refl
is_some_within (x ∷ xs) (suc i) h = is_some_within xs i (omega arith)

pub past_none : {X : Type 0} (xs : List X) (i : ℕ) → slice_get xs i ≡ None → length xs ≤ i
past_none xs i none =
    elim (cases_lt i (length xs)) [
      | inl inside ↦ absurd (false≢true (sym (ap (λ o. is_some o) none) ∙ is_some_within xs i inside))
      | inr past ↦ past
    ]

pub is_some-option_copied : {X : Type 0} (found : Option (Bor X)) → is_some (option_copied found) ≡ is_some found
is_some-option_copied None = refl
is_some-option_copied (Some x) = refl

-- what a look-up gives tells whether it is past the end
pub none_past : {X : Type 0} (found : Option (Bor X)) (xs : List X) (i : ℕ) → option_copied found ≡ slice_get xs i → IsNone found ↔ (length xs ≤ i)
none_past found xs i is = (
  λ none. elim (cases_lt i (length xs)) [
    | inl inside ↦ absurd (false≢true (sym none ∙ sym (is_some-option_copied found) ∙ ap (λ o. is_some o) is ∙ is_some_within xs i inside))
    | inr past ↦ past
  ],
  λ past. sym (is_some-option_copied found) ∙ ap (λ o. is_some o) (is ∙ slice_get_past xs i past),
)
