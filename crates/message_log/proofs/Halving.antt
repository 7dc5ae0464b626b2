-- The search for a stretch by halving.
use Rattle.std.proofs.Common.{◌≡◌, ℕ, suc, ◌+◌, ◌-◌, ◌*◌, ◌^◌, ◌<◌, ◌≤◌, true, false, List, length, ap, ◌∙◌, inl, inr, arith}
use Rattle.std.proofs.lemmas.Bool.{cases_lt}
use Rattle.std.proofs.lemmas.Bool.Decides.{nat_tests}
use Rattle.std.proofs.Math.Nat.{mul-le-mul_left, pow-succ'}
use Rattle.message_log.specs.declared.stretches.Stretch.{Stretch}
use Rattle.message_log.specs.Stretches.{is_before, is_behind, Covers, AreInOrder, AnyCovers, stretch_at}

module _ (s : Stretch) (k n : ℕ) where
  pub covered : is_before s k n ≡ false → is_behind s k n ≡ false → Covers s k n
  covered b a = record { series = grind (arith, nat_tests); from = grind (arith, nat_tests); to = grind (arith, nat_tests) }

  pub not_before : is_before s k n ≡ true → Covers s k n → ⊥
  not_before b c = let e = c.series in let t = c.to in grind (arith, nat_tests)

  pub not_behind : is_behind s k n ≡ true → Covers s k n → ⊥
  not_behind b c = let e = c.series in let t = c.from in grind (arith, nat_tests)

  pub still_before : (t : Stretch) → t.first ≤ t.last → is_before s t.series t.first ≡ true → is_before t k n ≡ true → is_before s k n ≡ true
  still_before t filled o b = grind (arith, nat_tests)

  pub still_behind : (t : Stretch) → s.first ≤ s.last → is_before s t.series t.first ≡ true → is_behind s k n ≡ true → is_behind t k n ≡ true
  still_behind t filled o b = grind (arith, nat_tests)

-- how far the search has come
pub record Searched (stretches : List Stretch) (k n low high : ℕ) : Type 0 where
  pub below : (i : ℕ) → i < low → is_before (stretch_at stretches i) k n ≡ true
  pub above : (i : ℕ) → high ≤ i → i < length stretches → is_behind (stretch_at stretches i) k n ≡ true
  pub within : high ≤ length stretches

module _ (stretches : List Stretch) (k n low high : ℕ) (ordered : AreInOrder stretches) (searched : Searched stretches k n low high) where
  pub gone_up : (middle : ℕ) → middle < high → is_before (stretch_at stretches middle) k n ≡ true → Searched stretches k n (middle + 1) high
  gone_up middle inside is = record {
    below = λ i h. elim (cases_lt i middle) [
      | inl less ↦ still_before (stretch_at stretches i) k n (stretch_at stretches middle) (ordered.filled middle (omega (arith, searched.within))) (ordered.rising i middle less (omega (arith, searched.within))) is
      | inr more ↦ let same : i ≡ middle = omega arith in rw same is
    ];
    above = searched.above;
    within = searched.within;
  }

  pub gone_down : (middle : ℕ) → middle < high → is_behind (stretch_at stretches middle) k n ≡ true → Searched stretches k n low middle
  gone_down middle inside is = record {
    below = searched.below;
    above = λ i h l. elim (cases_lt middle i) [
      | inl more ↦ still_behind (stretch_at stretches middle) k n (stretch_at stretches i) (ordered.filled middle (omega (arith, searched.within))) (ordered.rising middle i more l) is
      | inr less ↦ let same : i ≡ middle = omega arith in rw same is
    ];
    within = omega (arith, searched.within);
  }

  pub not_there : high ≤ low → AnyCovers stretches k n → ⊥
  not_there done found =
      elim (cases_lt found.0 low) [
        | inl less ↦ not_before (stretch_at stretches found.0) k n (searched.below found.0 less) found.2
        | inr more ↦ not_behind (stretch_at stretches found.0) k n (searched.above found.0 (omega arith) found.1) found.2
      ]

-- one more step is allowed while something is left, and half of it is left then
module _ (start now count : ℕ) where
  next : start ≤ now → 2 ^ (now + 1 - start) ≡ 2 * 2 ^ (now - start)
  next h = let e : now + 1 - start ≡ suc (now - start) = omega arith in ap (λ k. 2 ^ k) e ∙ (pow-succ' 2 (now - start))

  pub step_allowed : start ≤ now → (gap : ℕ) → 0 < gap → 2 ^ (now - start) * gap ≤ count → 2 ^ (now + 1 - start) ≤ 2 * count + 1
  step_allowed h gap some cost = let least : 2 ^ (now - start) * 1 ≤ 2 ^ (now - start) * gap = mul-le-mul_left (2 ^ (now - start)) some in omega (arith, next h)

  pub half_left : start ≤ now → (gap less : ℕ) → 2 * less ≤ gap → 2 ^ (now - start) * gap ≤ count → 2 ^ (now + 1 - start) * less ≤ count
  half_left h gap less half cost = let most : 2 ^ (now - start) * (2 * less) ≤ 2 ^ (now - start) * gap = mul-le-mul_left (2 ^ (now - start)) half in rw (next h) (omega arith)
