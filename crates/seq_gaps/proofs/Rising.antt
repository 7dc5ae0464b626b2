-- What is found in two lists, of numbers that rise and of the item of each.
use Rattle.std.proofs.Common.{◌≡◌, ◌≢◌, ℕ, zero, suc, ◌<◌, ◌≤◌, true, false, cond, eqb, List, [], ◌∷◌, length, get_or, Some, None, is_some, refl, sym, ap, arith}
use Rattle.std.specs.List.{zip, insert}
use Rattle.std.specs.Ordering.{nat_cmp, is_lt}
use Rattle.std.specs.declared.cmp.Ordering.TheVariants.{Less, Greater}
use Rattle.std.specs.Cmp.{nat_cmp_is, unsigned_tied}
use Rattle.std.proofs.lemmas.Bool.{eq-eqb, ne_eqb, and_parts}
use Rattle.std.proofs.lemmas.Bool.Decides.{nat_tests}
use Rattle.std.specs.FinMap.{find, put, is_sorted}
use Rattle.std.specs.FinMap.Entries.{below_all}

pub less : (m n : ℕ) → m < n → nat_cmp m n ≡ Less
less m n h = sym (nat_cmp_is m n Less h)

pub greater : (m n : ℕ) → n < m → nat_cmp m n ≡ Greater
greater m n h = sym (nat_cmp_is m n Greater h)

less_from : (m n : ℕ) → is_lt (nat_cmp m n) ≡ true → m < n
less_from m n h = grind (arith, nat_tests)

one_less : (a b : ℕ) → suc a ≡ suc b → a ≡ b
one_less a b e = omega arith

module _ {X : Type 0} where
  above : (m : ℕ) (ns : List ℕ) (xs : List X) → length xs ≡ length ns → below_all nat_cmp m (zip ns xs) ≡ true → (k : ℕ) → k < length ns → m < get_or ns k 0
  above m [] xs e h k l = absurd (omega arith)
  above m (n ∷ ns) [] e h k l = absurd (omega arith)
  above m (n ∷ ns) (x ∷ xs) e h zero l = less_from m n (and_parts _ _ h).0
  above m (n ∷ ns) (x ∷ xs) e h (suc k) l = above m ns xs (one_less _ _ e) (and_parts _ _ h).1 k (omega arith)

  -- no number is above a later one
  pub rises : (ns : List ℕ) (xs : List X) → length xs ≡ length ns → is_sorted nat_cmp (zip ns xs) ≡ true → (i j : ℕ) → i ≤ j → j < length ns → get_or ns i 0 ≤ get_or ns j 0
  rises [] xs e h i j l m = absurd (omega arith)
  rises (n ∷ ns) [] e h i j l m = absurd (omega arith)
  rises (n ∷ ns) (x ∷ xs) e h zero zero l m = omega arith
  rises (n ∷ ns) (x ∷ xs) e h zero (suc j) l m = let up = above n ns xs (one_less _ _ e) (and_parts _ _ h).0 j (omega arith) in omega arith
  rises (n ∷ ns) (x ∷ xs) e h (suc i) zero l m = absurd (omega arith)
  rises (n ∷ ns) (x ∷ xs) e h (suc i) (suc j) l m = rises ns xs (one_less _ _ e) (and_parts _ _ h).1 i j (omega arith) (omega arith)

  -- a number that stands nowhere has no item
  pub find-nowhere : (q : ℕ) (ns : List ℕ) (xs : List X) → ((k : ℕ) → k < length ns → get_or ns k 0 ≢ q) → find nat_cmp q (zip ns xs) ≡ None
  find-nowhere q [] xs h = refl
  find-nowhere q (n ∷ ns) [] h = refl
  find-nowhere q (n ∷ ns) (x ∷ xs) h =
      rw (unsigned_tied q n, ne_eqb q n (λ e. h 0 (omega arith) (sym e))) (find-nowhere q ns xs (λ k l. h (suc k) (omega arith)))

  -- a number that stands somewhere has one
  pub find-somewhere : (q : ℕ) (ns : List ℕ) (xs : List X) → length xs ≡ length ns → (i : ℕ) → i < length ns → get_or ns i 0 ≡ q → is_some (find nat_cmp q (zip ns xs)) ≡ true
  find-somewhere q [] xs e i l is = absurd (omega arith)
  find-somewhere q (n ∷ ns) [] e i l is = absurd (omega arith)
  find-somewhere q (n ∷ ns) (x ∷ xs) e zero l is = rw (unsigned_tied q n, eq-eqb q n (sym is))
  find-somewhere q (n ∷ ns) (x ∷ xs) e (suc i) l is =
      rw (unsigned_tied q n)
      (elim (eqb q n) as (λ b. is_some (cond b (Some x) (find nat_cmp q (zip ns xs))) ≡ true) [ true ↦ refl | false ↦ find-somewhere q ns xs (one_less _ _ e) i (omega arith) is ])

  -- nothing is found at or below a number that all keys are above
  pub find-below : (m q : ℕ) (es : List (ℕ × X)) → q ≤ m → below_all nat_cmp m es ≡ true → find nat_cmp q es ≡ None
  find-below m q [] l h = refl
  find-below m q (e ∷ es) l h =
      let up = less_from m e.0 (and_parts _ _ h).0 in
      rw (unsigned_tied q e.0, ne_eqb q e.0 (λ same. omega arith)) (find-below m q es l (and_parts _ _ h).1)

  -- a number and its item at the place between those below and those above
  pub zip-insert : (n : ℕ) (x : X) (ns : List ℕ) (xs : List X) (at : ℕ) → length xs ≡ length ns → at ≤ length ns → ((k : ℕ) → k < at → get_or ns k 0 < n) → ((k : ℕ) → at ≤ k → k < length ns → n < get_or ns k 0) → zip (insert ns at n) (insert xs at x) ≡ put nat_cmp n x (zip ns xs)
  zip-insert n x [] [] zero e l below over = refl
  zip-insert n x [] [] (suc at) e l below over = absurd (omega arith)
  zip-insert n x [] (y ∷ xs) at e l below over = absurd (omega arith)
  zip-insert n x (m ∷ ns) [] at e l below over = absurd (omega arith)
  zip-insert n x (m ∷ ns) (y ∷ xs) zero e l below over = rw (less n m (over 0 (omega arith) (omega arith)))
  zip-insert n x (m ∷ ns) (y ∷ xs) (suc at) e l below over =
      rw (greater n m (below 0 (omega arith))) (ap (λ es. (m, y) ∷ es) (zip-insert n x ns xs at (one_less _ _ e) (omega arith) (λ k h. below (suc k) (omega arith)) (λ k h i. over (suc k) (omega arith) (omega arith))))
