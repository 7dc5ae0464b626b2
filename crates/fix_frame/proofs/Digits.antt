-- The digits of a length, and which of them can stand in a frame.
use Rattle.std.proofs.Common.{◌≡◌, ℕ, zero, suc, ◌+◌, ◌-◌, ◌*◌, ◌≤◌, ◌<◌, Bool, true, ltb, eqb, get_or, List, [], ◌∷◌, ◌++◌, length, drop, refl, ap, ◌∙◌, arith, inl, inr, append-nil, length-append}
use Rattle.std.proofs.lemmas.Bool.{and_parts, and_from, or_cases, or_left, or_right, eqb-true, leb-true, le-leb, ltb-true, cases_lt, cases_Bool, cases_eq, agree_below, agree_below_at}
use Rattle.std.proofs.lemmas.List.Folds.{list_any_at}
use Rattle.std.specs.Char.{is_ascii_digit}
use Rattle.std.specs.List.{list_all, list_any}
use Rattle.fix_frame.specs.Frame.{number_after, number_of}
use Rattle.fix_frame.specs.Cut.{digits_at, fits, can_become}

-- ---- the digits with which bytes begin

pub digits_at-digits : (k : ℕ) (x : List ℕ) → list_all is_ascii_digit (digits_at k x) ≡ true
digits_at-digits zero x = refl
digits_at-digits (suc k) [] = refl
digits_at-digits (suc k) (b ∷ x) =
    elim (cases_Bool (is_ascii_digit b)) [
      | inl digit ↦ rw digit (and_from _ _ digit (digits_at-digits k x))
      | inr other ↦ rw other refl
    ]

pub digits_at-most : (k : ℕ) (x : List ℕ) → length (digits_at k x) ≤ k
digits_at-most zero x = omega arith
digits_at-most (suc k) [] = omega arith
digits_at-most (suc k) (b ∷ x) =
    elim (cases_Bool (is_ascii_digit b)) [
      | inl digit ↦ rw digit (omega (arith, digits_at-most k x))
      | inr other ↦ rw other (omega arith)
    ]

pub digits_at-split : (k : ℕ) (x : List ℕ) → x ≡ digits_at k x ++ drop (length (digits_at k x)) x
digits_at-split zero x = refl
digits_at-split (suc k) [] = refl
digits_at-split (suc k) (b ∷ x) =
    elim (cases_Bool (is_ascii_digit b)) [
      | inl digit ↦ rw digit (ap (λ (y : List ℕ). b ∷ y) (digits_at-split k x))
      | inr other ↦ rw other refl
    ]

-- a field ends at the byte that ends it
pub digits_at-field : (k : ℕ) (f x : List ℕ) → list_all is_ascii_digit f ≡ true → length f ≤ k → digits_at k (f ++ 1 ∷ x) ≡ f
digits_at-field zero [] x h l = refl
digits_at-field zero (c ∷ f) x h l = absurd (omega arith)
digits_at-field (suc k) [] x h l = refl
digits_at-field (suc k) (c ∷ f) x h l =
    let q = and_parts (is_ascii_digit c) (list_all is_ascii_digit f) h in
    rw q.0 (ap (λ (y : List ℕ). c ∷ y) (digits_at-field k f x q.1 (omega arith)))

-- digits that end before the bytes do are no more with more bytes
pub digits_at-stops : (k : ℕ) (x y : List ℕ) → length (digits_at k x) < length x → digits_at k (x ++ y) ≡ digits_at k x
digits_at-stops zero x y h = refl
digits_at-stops (suc k) [] y h = absurd (omega arith)
digits_at-stops (suc k) (b ∷ x) y h =
    elim (cases_Bool (is_ascii_digit b)) [
      | inl digit ↦
          let shorter : length (digits_at k x) < length x = le_of_suc (rw digit at h) in
          rw digit (ap (λ (z : List ℕ). b ∷ z) (digits_at-stops k x y shorter))
      | inr other ↦ rw other refl
    ]
  where
    le_of_suc : {i j : ℕ} → suc i < suc j → i < j
    le_of_suc h = omega arith

-- digits that are all of the bytes go on with more bytes
pub digits_at-runs : (k : ℕ) (x y : List ℕ) → length x ≤ length (digits_at k x) → digits_at k (x ++ y) ≡ x ++ digits_at (k - length x) y
digits_at-runs k [] y h = ap (λ (i : ℕ). digits_at i y) {y = k - 0} (omega arith)
digits_at-runs zero (b ∷ x) y h = absurd (omega arith)
digits_at-runs (suc k) (b ∷ x) y h =
    elim (cases_Bool (is_ascii_digit b)) [
      | inl digit ↦
          let longer : length x ≤ length (digits_at k x) = le_of_suc (rw digit at h) in
          let same : suc k - suc (length x) ≡ k - length x = omega arith in
          rw (digit, same) (ap (λ (z : List ℕ). b ∷ z) (digits_at-runs k x y longer))
      | inr other ↦ absurd (none (rw other at h))
    ]
  where
    le_of_suc : {i j : ℕ} → suc i ≤ suc j → i ≤ j
    le_of_suc h = omega arith

    none : {i : ℕ} → suc i ≤ 0 → ⊥
    none h = omega arith

-- ---- the numbers of digits

pub number_after-append : (n : ℕ) (f g : List ℕ) → number_after n (f ++ g) ≡ number_after (number_after n f) g
number_after-append n [] g = refl
number_after-append n (c ∷ f) g = number_after-append (10 * n + (c - 48)) f g

pub number_after-grows : (n : ℕ) (g : List ℕ) → n ≤ number_after n g
number_after-grows n [] = omega arith
number_after-grows n (c ∷ g) = omega (arith, number_after-grows (10 * n + (c - 48)) g)

pub number_after-more : (n c : ℕ) (g : List ℕ) → 10 * n ≤ number_after n (c ∷ g)
number_after-more n c g = omega (arith, number_after-grows (10 * n + (c - 48)) g)

-- a digit that stands for d
pub digit_of : (d : ℕ) → d < 10 → is_ascii_digit (48 + d) ≡ true
digit_of d h = and_from _ _ (le-leb 48 (48 + d) (omega arith)) (le-leb (48 + d) 57 (omega arith))

pub number_of-digit : (f : List ℕ) (d : ℕ) → number_of (f ++ (48 + d) ∷ []) ≡ 10 * number_of f + d
number_of-digit f d = number_after-append 0 f ((48 + d) ∷ []) ∙ omega arith

-- ---- which digits can stand in a frame

pub record FitsParts (limit count number : ℕ) : Type 0 where
  pub some : 1 ≤ count
  pub most : count ≤ 9
  pub least : 4 ≤ number
  pub short : 20 + count + number ≤ limit

pub fits_parts : (limit count number : ℕ) → fits limit count number ≡ true → FitsParts limit count number
fits_parts limit count number h =
    let q = and_parts _ _ h in
    let r = and_parts _ _ q.1 in
    let s = and_parts _ _ r.1 in
    record {
      some = leb-true 1 count q.0;
      most = leb-true count 9 r.0;
      least = leb-true 4 number s.0;
      short = leb-true (20 + count + number) limit s.1;
    }

pub fits_from : (limit count number : ℕ) → 1 ≤ count → count ≤ 9 → 4 ≤ number → 20 + count + number ≤ limit → fits limit count number ≡ true
fits_from limit count number a b c d =
    and_from _ _ (le-leb 1 count a) (and_from _ _ (le-leb count 9 b) (and_from _ _ (le-leb 4 number c) (le-leb (20 + count + number) limit d)))

-- one of the numbers passes
any_passes : (p : ℕ → Bool) (xs : List ℕ) (m : ℕ) → list_any p xs ≡ true → list_all (λ d. ltb d m) xs ≡ true → (d : ℕ) × (d < m) × (p d ≡ true)
any_passes p [] m h k = absurd cc
any_passes p (x ∷ xs) m h k =
    let q = and_parts (ltb x m) (list_all (λ d. ltb d m) xs) k in
    elim (or_cases (p x) (list_any p xs) h) [
      | inl here ↦ (x, ltb-true x m q.0, here)
      | inr there ↦ any_passes p xs m there q.1
    ]

-- digits that can become a field become one with at most one more digit
pub becomes : (limit : ℕ) (f : List ℕ) → list_all is_ascii_digit f ≡ true → can_become limit (length f) (number_of f) ≡ true
    → (g : List ℕ) × (list_all is_ascii_digit g ≡ true) × (fits limit (length (f ++ g)) (number_of (f ++ g)) ≡ true)
becomes limit f digits h =
    elim (or_cases _ _ h) [
      | inl now ↦ ([], refl, rw (append-nil f) now)
      | inr more ↦
          let p = any_passes (λ d. fits limit (length f + 1) (10 * number_of f + d)) (0 ∷ 1 ∷ 2 ∷ 3 ∷ 4 ∷ 5 ∷ 6 ∷ 7 ∷ 8 ∷ 9 ∷ []) 10 more refl in
          let g = (48 + p.0) ∷ [] in
          let len : length (f ++ g) ≡ length f + 1 = length-append f g in
          (g, and_from _ _ (digit_of p.0 p.1) refl, rw (len, number_of-digit f p.0) p.2)
    ]

-- what a test that computes says of each number below n
pub all_at : (test : ℕ → Bool) (n : ℕ) → agree_below test (λ _. true) n ≡ true → (d : ℕ) → d < n → test d ≡ true
all_at test n h d small = agree_below_at test (λ _. true) n d h small

-- one more digit, d, is enough
pub one_more : (limit count number d : ℕ) → d < 10 → fits limit (count + 1) (10 * number + d) ≡ true → can_become limit count number ≡ true
one_more limit count number d small h =
    let test : ℕ → Bool = λ i. fits limit (count + 1) (10 * number + i) in
    let ten = 0 ∷ 1 ∷ 2 ∷ 3 ∷ 4 ∷ 5 ∷ 6 ∷ 7 ∷ 8 ∷ 9 ∷ [] in
    or_right (fits limit count number) (list_any test ten) (list_any_at test ten d 0 (omega arith) (ap test (eqb-true _ _ (all_at (λ i. eqb (get_or ten i 0) i) 10 refl d small)) ∙ h))

-- what fits with more digits can become a field
pub can_become_before : (limit : ℕ) (f g : List ℕ) → fits limit (length (f ++ g)) (number_of (f ++ g)) ≡ true → can_become limit (length f) (number_of f) ≡ true
can_become_before limit f [] h = or_left _ _ (rw (append-nil f) at h)
can_become_before limit [] (c ∷ g) h =
    let q = fits_parts limit (length (c ∷ g)) (number_of (c ∷ g)) h in
    one_more limit 0 0 4 (omega arith) (fits_from limit 1 4 (omega arith) (omega arith) (omega arith) (omega arith))
can_become_before limit (b ∷ f) (c ∷ g) h =
    let all = (b ∷ f) ++ (c ∷ g) in
    let q = fits_parts limit (length all) (number_of all) h in
    let v = number_of (b ∷ f) in
    let longer : length all ≡ length (b ∷ f) + suc (length g) = length-append (b ∷ f) (c ∷ g) in
    let is : number_of all ≡ number_after v (c ∷ g) = number_after-append 0 (b ∷ f) (c ∷ g) in
    let more : 10 * v ≤ number_of all = omega (arith, number_after-more v c g) in
    elim (cases_lt v 4) [
      | inr large ↦ or_left _ _ (fits_from limit (length (b ∷ f)) v (omega arith) (omega arith) large (omega arith))
      | inl small ↦
          elim (cases_eq v 0) [
            | inl none ↦
                one_more limit (length (b ∷ f)) v 4 (omega arith) (fits_from limit (length (b ∷ f) + 1) (10 * v + 4) (omega arith) (omega arith) (omega arith) (omega arith))
            | inr some ↦
                one_more limit (length (b ∷ f)) v 0 (omega arith) (fits_from limit (length (b ∷ f) + 1) (10 * v + 0) (omega arith) (omega arith) (omega arith) (omega arith))
          ]
    ]
