-- A number and the word in it.
use Rattle.std.proofs.Common.{◌≡◌, ℕ, zero, suc, ◌+◌, ◌*◌, ◌/◌, ◌%◌, ◌^◌, ◌<◌, cond, eqb, refl, sym, ap, ◌∙◌, arith, lit<}
use Rattle.std.proofs.Math.Nat.{div-div-eq-div-mul}
use Rattle.std.proofs.lemmas.Nat.{div-mul-add, mod-mul-add}
use Rattle.lease_core.specs.declared.word.Standing.{Standing}
use Rattle.lease_core.specs.declared.word.Standing.TheVariants.{Active, Released, Revoked}
use Rattle.lease_core.specs.declared.word.Word.{Word}
use Rattle.lease_core.specs.Word.{flag_of, number_of, word_in, HasBothFlags}

-- what stands above the count: the lease, the owner and the two flags
abbrev above : ℕ → ℕ
above n = n / 2 ^ 32

above-33 : (n : ℕ) → n / 2 ^ 33 ≡ above n / 2
above-33 n = sym (div-div-eq-div-mul n (2 ^ 32) 2)

above-34 : (n : ℕ) → n / 2 ^ 34 ≡ above n / 4
above-34 n = sym (div-div-eq-div-mul n (2 ^ 32) 4)

above-40 : (n : ℕ) → n / 2 ^ 40 ≡ above n / 256
above-40 n = sym (div-div-eq-div-mul n (2 ^ 32) 256)

-- the parts of a number make it up again
parts : (n flag : ℕ) → flag ≡ above n / 2 % 2 * 2 + above n % 2 → n / 2 ^ 40 * 2 ^ 40 + n / 2 ^ 34 % 64 * 2 ^ 34 + flag * 2 ^ 32 + n % 2 ^ 32 ≡ n
parts n flag h =
    let high = above-40 n in
    let mid = above-34 n in
    let small : above n ≡ above n / 256 * 256 + above n / 4 % 64 * 4 + (above n / 2 % 2 * 2 + above n % 2) = omega arith in
    let whole : n ≡ above n * 2 ^ 32 + n % 2 ^ 32 = omega arith in
    rw (high, mid) (omega (arith, small, whole, h))

-- which flags are set
two_flags : (a b : ℕ) → a < 2 → b < 2 → ((a ≡ 1) × (b ≡ 1) → ⊥) → flag_of (cond (eqb a 1) Released (cond (eqb b 1) Revoked Active)) ≡ (b * 2 + a) * 2 ^ 32
two_flags zero zero h k not_both = refl
two_flags zero (suc zero) h k not_both = refl
two_flags (suc zero) zero h k not_both = refl
two_flags (suc zero) (suc zero) h k not_both = absurd (not_both (refl, refl))
two_flags (suc (suc a)) b h k not_both = absurd (omega arith)
two_flags a (suc (suc b)) h k not_both = absurd (omega arith)

pub number-word_in : (n : ℕ) → (HasBothFlags n → ⊥) → number_of (word_in n) ≡ n
unfolding number_of word_in
number-word_in n not_both =
    let mid = above-33 n in
    let two = two_flags (n / 2 ^ 32 % 2) (n / 2 ^ 33 % 2) (omega arith) (omega arith) not_both in
    rw two (parts n _ (rw mid refl))

flags : (standing : Standing) → (f : ℕ) × (flag_of standing ≡ f * 2 ^ 32) × (f < 3) × (cond (eqb (f % 2) 1) Released (cond (eqb (f / 2 % 2) 1) Revoked Active) ≡ standing)
flags Active = (0, refl, lit< tt, refl)
flags Released = (1, refl, lit< tt, refl)
flags Revoked = (2, refl, lit< tt, refl)

-- what the parts of a made number are
apart : (lease owner f count : ℕ) → owner < 64 → f < 3 → count < 2 ^ 32 →
    let n = lease * 2 ^ 40 + owner * 2 ^ 34 + f * 2 ^ 32 + count in
    (n / 2 ^ 40 ≡ lease) × (n / 2 ^ 34 % 64 ≡ owner) × (n / 2 ^ 32 % 2 ≡ f % 2) × (n / 2 ^ 33 % 2 ≡ f / 2 % 2) × (n % 2 ^ 32 ≡ count)
apart lease owner f count h k l =
    let a = lease * 256 + owner * 4 + f in
    let n = lease * 2 ^ 40 + owner * 2 ^ 34 + f * 2 ^ 32 + count in
    let made : n ≡ a * 2 ^ 32 + count = omega arith in
    let high : above n ≡ a = ap (λ m. m / 2 ^ 32) made ∙ div-mul-add a (2 ^ 32) count l in
    let low : n % 2 ^ 32 ≡ count = ap (λ m. m % 2 ^ 32) made ∙ mod-mul-add a (2 ^ 32) count l in
    let third = above-33 n in
    let fourth = above-34 n in
    let fifth = above-40 n in (omega (arith, high, fifth), omega (arith, high, fourth), omega (arith, high), omega (arith, high, third), low)

pub word_in-number : (w : Word) → w.owner < 64 → w.count < 2 ^ 32 → word_in (number_of w) ≡ w
unfolding number_of word_in
word_in-number w owner count =
    let f = flags w.standing in
    let of_parts = apart w.lease w.owner f.0 w.count owner f.2 count in
    rw f.1 (rw (of_parts.0, of_parts.1, of_parts.2, of_parts.3, of_parts.4, f.3) refl)
