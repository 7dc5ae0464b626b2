-- What the two lists of early items tell of the map that they stand for.
use Rattle.std.proofs.Common.{◌≡◌, ℕ, ◌<◌, ◌≤◌, true, false, not, eqb, List, [], ◌∷◌, ◌++◌, length, get_or, drop, Option, Some, None, is_some, IfSome, IfNone, Bor, refl, sym, ap, ◌∙◌, subst, inl, inr, arith}
use Rattle.std.specs.List.{zip, insert as insert_at, slice_get}
use Rattle.std.specs.Option.{option_copied, option_to_list, option_eq}
use Rattle.std.specs.Slice.{IsItemAt}
use Rattle.std.specs.Ordering.{nat_cmp}
use Rattle.std.specs.Cmp.{unsigned_tied}
use Rattle.std.proofs.lemmas.Bool.{and_parts, eq-eqb, ne_eqb, eqb-true, cases_order, cases_lt, lt-ltb, le-ltb, false≢true}
use Rattle.std.proofs.lemmas.List.Edits.{length-insert}
use Rattle.std.specs.FinMap.{FinMap, find, is_sorted, get, insert, remove, len, empty, get-empty}
use Rattle.seq_gaps.specs.declared.offered.TheConstants.{HELD_LIMIT}
use Rattle.seq_gaps.specs.declared.offered.Place.TheVariants.{Held, Known, NoRoom}
use Rattle.seq_gaps.specs.Early.{held_in, ArePaired, IsFirst, NoneBelow, early_place}
use Rattle.seq_gaps.proofs.Rising.{find-below, find-nowhere, find-somewhere}
use Rattle.seq_gaps.proofs.Maps.{get-held_in, held_in-nil, held_in-rest, held_in-insert}

pub front_is : (ns : List ℕ) (r : Option (Bor ℕ)) → IsItemAt ns 0 r → option_copied r ≡ slice_get ns 0
front_is [] None h = refl
front_is [] (Some b) h = absurd (false≢true (sym (h.0 ∙ le-ltb 0 0 (omega arith))))
front_is (n ∷ ns) None h = absurd (false≢true (h.0 ∙ lt-ltb 0 (length (n ∷ ns)) (omega arith)))
front_is (n ∷ ns) (Some b) h = ap (λ x. Some x) (h.1)

module _ {X : Type 0} where
  -- what is taken from the front of a list
  pub popped_is : (xs : List X) (r : Option X) (rest : List X) → xs ≡ option_to_list r ++ rest → rest ≡ drop 1 xs → r ≡ slice_get xs 0
  popped_is [] None rest e f = refl
  popped_is [] (Some y) rest e f = cc
  popped_is (x ∷ xs) None rest e f = absurd (omega (arith, ap length e, ap length f))
  popped_is (x ∷ xs) (Some y) rest e f = cc

  -- nothing is found below the first number
  below_first : (n : ℕ) (x : X) (es : List (ℕ × X)) (k : ℕ) → is_sorted nat_cmp ((n, x) ∷ es) ≡ true → k < n → find nat_cmp k ((n, x) ∷ es) ≡ None
  below_first n x es k h l = rw (unsigned_tied k n, ne_eqb k n (λ same. omega arith)) (find-below n k es (omega arith) (and_parts _ _ h).0)

  find_first : (n : ℕ) (x : X) (es : List (ℕ × X)) → find nat_cmp n ((n, x) ∷ es) ≡ Some x
  find_first n x es = rw (unsigned_tied n n, eq-eqb n n refl)

  first_is : (n : ℕ) (ns : List ℕ) (x : X) (xs : List X) → ArePaired (n ∷ ns) (x ∷ xs) → IsFirst (held_in (n ∷ ns) (x ∷ xs)) n
  first_is n ns x xs p = record {
    is_held = ap is_some (get-held_in (n ∷ ns) (x ∷ xs) n p.rising ∙ find_first n x (zip ns xs));
    least = λ k l. get-held_in (n ∷ ns) (x ∷ xs) k p.rising ∙ below_first n x (zip ns xs) k p.rising l;
  }

  -- the least number held is the first in the list
  pub first_told : (ns : List ℕ) (xs : List X) → ArePaired ns xs → IfSome (slice_get ns 0) (IsFirst (held_in ns xs)) × IfNone (slice_get ns 0) (held_in ns xs ≡ empty)
  first_told [] [] p = (tt, held_in-nil)
  first_told [] (x ∷ xs) p = absurd (omega (arith, p.one_each))
  first_told (n ∷ ns) [] p = absurd (omega (arith, p.one_each))
  first_told (n ∷ ns) (x ∷ xs) p = (first_is n ns x xs p, tt)

  one_least : (m : FinMap nat_cmp X) (a b : ℕ) → IsFirst m a → IsFirst m b → a ≡ b
  one_least m a b p q =
      elim (cases_order a b) [
        | inl same ↦ same
        | inr (inl less) ↦ absurd (false≢true (sym (ap is_some (q.least a less)) ∙ p.is_held))
        | inr (inr more) ↦ absurd (false≢true (sym (ap is_some (p.least b more)) ∙ q.is_held))
      ]

  -- the first number and its item leave both lists
  pub rest_told : (ns : List ℕ) (xs : List X) (n : ℕ) → ArePaired ns xs → IsFirst (held_in ns xs) n → ArePaired (drop 1 ns) (drop 1 xs) × (held_in (drop 1 ns) (drop 1 xs) ≡ remove (held_in ns xs) n) × (slice_get xs 0 ≡ get (held_in ns xs) n)
  rest_told [] [] n p f = absurd (false≢true (sym (ap is_some (ap (λ m. get m n) held_in-nil ∙ get-empty nat_cmp n)) ∙ f.is_held))
  rest_told [] (x ∷ xs) n p f = absurd (omega (arith, p.one_each))
  rest_told (k ∷ ns) [] n p f = absurd (omega (arith, p.one_each))
  rest_told (k ∷ ns) (x ∷ xs) n p f =
      let same : k ≡ n = one_least _ k n (first_is k ns x xs p) f in
      let left = held_in-rest k x ns xs p.rising in (
        record { rising = left.0; one_each = omega (arith, p.one_each); few = omega (arith, p.few) },
        left.1 ∙ ap (remove (held_in (k ∷ ns) (x ∷ xs))) same,
        sym (ap (get (held_in (k ∷ ns) (x ∷ xs))) (sym same) ∙ get-held_in (k ∷ ns) (x ∷ xs) k p.rising ∙ find_first k x (zip ns xs)),
      )

  -- where the least number is another one and nothing below n is held, n is not held
  pub not_first : (m : FinMap nat_cmp X) (n : ℕ) (r : Option ℕ) → IfSome r (IsFirst m) → IfNone r (m ≡ empty) → NoneBelow m n → not (option_eq eqb r (Some n)) ≡ true → get m n ≡ None
  not_first m n None some none below h = ap (λ m. get m n) none ∙ get-empty nat_cmp n
  not_first m n (Some f) some none below h =
      elim (cases_order f n) [
        | inl same ↦ absurd (false≢true (sym (ap not (eq-eqb f n same)) ∙ h))
        | inr (inl less) ↦ absurd (false≢true (sym (ap is_some (below f less)) ∙ some.is_held))
        | inr (inr more) ↦ some.least n more
      ]

  -- the same of the expected number, below which nothing is held
  pub not_expected : (m : FinMap nat_cmp X) (e n : ℕ) (r : Option ℕ) → IfSome r (IsFirst m) → IfNone r (m ≡ empty) → NoneBelow m e → n ≤ e → option_eq eqb r (Some n) ≡ false → get m n ≡ None
  not_expected m e n r some none below l h = not_first m n r some none (λ k less. below k (omega arith)) (ap not h)

  pub is_first : (m : FinMap nat_cmp X) (n : ℕ) (r : Option ℕ) → IfSome r (IsFirst m) → not (option_eq eqb r (Some n)) ≡ false → IsFirst m n
  is_first m n None some h = absurd (false≢true (sym h))
  is_first m n (Some f) some h = subst (IsFirst m) (eqb-true f n (elim (eqb f n) as (λ b. not b ≡ false → b ≡ true) [ true ↦ λ _. refl | false ↦ λ e. absurd (false≢true (sym e)) ] h)) some

  -- what the search of the numbers tells
  pub known_told : (ns : List ℕ) (xs : List X) (n i : ℕ) → ArePaired ns xs → i < length ns → get_or ns i 0 ≡ n → is_some (get (held_in ns xs) n) ≡ true
  known_told ns xs n i p l is = ap is_some (get-held_in ns xs n p.rising) ∙ find-somewhere n ns xs p.one_each i l is

  pub absent_told : (ns : List ℕ) (xs : List X) (n at : ℕ) → ArePaired ns xs → ((k : ℕ) → k < at → get_or ns k 0 < n) → ((k : ℕ) → at ≤ k → k < length ns → n < get_or ns k 0) → get (held_in ns xs) n ≡ None
  absent_told ns xs n at p below over = get-held_in ns xs n p.rising ∙ find-nowhere n ns xs (λ k l same.
      elim (cases_lt k at) [
        | inl less ↦ let b = below k less in omega arith
        | inr more ↦ let o = over k more l in omega arith
      ])

  -- an item more in both lists, at the place that the search found
  pub insert_told : (ns : List ℕ) (xs : List X) (n : ℕ) (x : X) (at : ℕ) → ArePaired ns xs → length ns < HELD_LIMIT → at ≤ length ns → ((k : ℕ) → k < at → get_or ns k 0 < n) → ((k : ℕ) → at ≤ k → k < length ns → n < get_or ns k 0) → ArePaired (insert_at ns at n) (insert_at xs at x) × (held_in (insert_at ns at n) (insert_at xs at x) ≡ insert (held_in ns xs) n x)
  insert_told ns xs n x at p room l below over =
      let more = held_in-insert n x ns xs at p.one_each p.rising l below over in
      let m = length-insert ns at n l in
      let o = length-insert xs at x (subst (λ k. at ≤ k) (sym p.one_each) l) in
      (record { rising = more.0; one_each = omega (arith, p.one_each); few = omega arith }, more.1)

  -- where an early item stands, by what was found
  pub early_known : (m : FinMap nat_cmp X) (n : ℕ) (x : X) → is_some (get m n) ≡ true → Known x ≡ early_place m n x
  early_known m n x h = rw (h)

  pub early_full : (m : FinMap nat_cmp X) (n : ℕ) (x : X) → get m n ≡ None → HELD_LIMIT ≤ len m → NoRoom x ≡ early_place m n x
  early_full m n x h l = rw (h, le-ltb (len m) HELD_LIMIT l)

  pub early_held : (m : FinMap nat_cmp X) (n : ℕ) (x : X) → get m n ≡ None → len m < HELD_LIMIT → Held ≡ early_place m n x
  early_held m n x h l = rw (h, lt-ltb (len m) HELD_LIMIT l)
