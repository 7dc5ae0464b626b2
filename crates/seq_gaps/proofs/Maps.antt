-- What edits of the two lists make of the map, and laws of finite maps from numbers.
use Rattle.std.proofs.Common.{◌≡◌, ℕ, ◌<◌, ◌≤◌, Bool, true, false, cond, not, T, eqb, List, [], ◌∷◌, length, get_or, Some, None, is_some, refl, sym, ap, ◌∙◌, subst, inl, inr, arith}
use Rattle.std.specs.List.{zip, insert as insert_at}
use Rattle.std.specs.Ordering.{nat_cmp, eq_by_cmp}
use Rattle.std.specs.declared.cmp.Ordering.TheVariants.{Equal}
use Rattle.std.specs.Cmp.{unsigned_tied}
use Rattle.std.proofs.lemmas.Cmp.{nat_cmp_total}
use Rattle.std.proofs.lemmas.List.Filters.{length-filter_both}
use Rattle.std.proofs.lemmas.Slice.Zip.{length-zip}
use Rattle.std.proofs.lemmas.Bool.{and_parts, eqb-true, cases_lt, false≢true}
use Rattle.std.specs.FinMap.{FinMap, find, put, is_sorted, get, insert, remove, retain_keys, len, entries, empty, same_map, same_entries_map, nat_cmp-IsAntisymmetric, empty_of_len, len-remove, get-empty, entries-from_sorted, entries_sorted, from_sorted, get-entries, get-from_sorted, entries-insert, get-remove, get-retain_keys, len-entries}
use Rattle.std.specs.FinMap.Entries.{is_sorted-put, where_key, is_sorted-where_key, find-where_key}
use Rattle.seq_gaps.specs.Early.{held_in, ArePaired}
use Rattle.seq_gaps.proofs.Rising.{find-below, zip-insert}

T_from : (b : Bool) → b ≡ true → T b
T_from b h = subst T (sym h) tt

true_from : (b : Bool) → T b → b ≡ true
true_from true h = refl
true_from false h = absurd h

module _ {X : Type 0} where
  -- maps that answer alike are one
  pub one_map : (m n : FinMap nat_cmp X) → ((q : ℕ) → get m q ≡ get n q) → m ≡ n
  one_map = same_map nat_cmp_total nat_cmp-IsAntisymmetric

  pub get-held_in : (ns : List ℕ) (xs : List X) (q : ℕ) → is_sorted nat_cmp (zip ns xs) ≡ true → get (held_in ns xs) q ≡ find nat_cmp q (zip ns xs)
  get-held_in ns xs q h = get-from_sorted nat_cmp (zip ns xs) q (T_from _ h)

  entries-held_in : (ns : List ℕ) (xs : List X) → is_sorted nat_cmp (zip ns xs) ≡ true → entries (held_in ns xs) ≡ zip ns xs
  entries-held_in ns xs h = entries-from_sorted nat_cmp (zip ns xs) (T_from _ h)

  pub len-held_in : (ns : List ℕ) (xs : List X) → ArePaired ns xs → len (held_in ns xs) ≡ length ns
  len-held_in ns xs p = len-entries _ ∙ ap length (entries-held_in ns xs p.rising) ∙ length-zip ns xs ∙ rw (p.one_each) (omega arith)

  -- an item more in its place
  pub held_in-insert : (n : ℕ) (x : X) (ns : List ℕ) (xs : List X) (at : ℕ) → length xs ≡ length ns → is_sorted nat_cmp (zip ns xs) ≡ true → at ≤ length ns → ((k : ℕ) → k < at → get_or ns k 0 < n) → ((k : ℕ) → at ≤ k → k < length ns → n < get_or ns k 0) → (is_sorted nat_cmp (zip (insert_at ns at n) (insert_at xs at x)) ≡ true) × (held_in (insert_at ns at n) (insert_at xs at x) ≡ insert (held_in ns xs) n x)
  held_in-insert n x ns xs at e h l below over =
      let same = zip-insert n x ns xs at e l below over in
      let up = ap (is_sorted nat_cmp) same ∙ true_from _ (is_sorted-put nat_cmp nat_cmp_total n x (zip ns xs) (T_from _ h)) in
      (up, same_entries_map _ _ (entries-held_in _ _ up ∙ same ∙ sym (entries-insert nat_cmp_total (held_in ns xs) n x ∙ ap (put nat_cmp n x) (entries-held_in ns xs h))))

  -- the first item leaves
  pub held_in-rest : (n : ℕ) (x : X) (ns : List ℕ) (xs : List X) → is_sorted nat_cmp (zip (n ∷ ns) (x ∷ xs)) ≡ true → (is_sorted nat_cmp (zip ns xs) ≡ true) × (held_in ns xs ≡ remove (held_in (n ∷ ns) (x ∷ xs)) n)
  held_in-rest n x ns xs h =
      let parts = and_parts _ _ h in (
        parts.1,
        one_map _ _ (λ q. get-held_in ns xs q parts.1
            ∙ elim (eqb q n) as (λ b. eqb q n ≡ b → find nat_cmp q (zip ns xs) ≡ cond b None (cond b (Some x) (find nat_cmp q (zip ns xs)))) [
              | true ↦ λ is. find-below n q (zip ns xs) (let same = eqb-true q n is in omega arith) parts.0
              | false ↦ λ is. refl
            ] refl
            ∙ ap (λ b. cond b None (cond b (Some x) (find nat_cmp q (zip ns xs)))) (sym (unsigned_tied q n))
            ∙ sym (get-remove nat_cmp_total _ n q ∙ ap (cond (eq_by_cmp nat_cmp q n) None) (get-held_in (n ∷ ns) (x ∷ xs) q h))),
      )

  pub held_in-nil : held_in [] [] ≡ empty {X = X} {R = nat_cmp}
  held_in-nil = empty_of_len (held_in [] []) (len-entries _ ∙ ap length (entries-held_in [] [] refl))

  -- to remove a number that is not held changes nothing
  pub remove-absent : (m : FinMap nat_cmp X) (n : ℕ) → get m n ≡ None → m ≡ remove m n
  remove-absent m n h = one_map _ _ (λ q. sym (get-remove nat_cmp_total m n q
      ∙ ap (λ b. cond b None (get m q)) (unsigned_tied q n)
      ∙ elim (eqb q n) as (λ b. eqb q n ≡ b → cond b None (get m q) ≡ get m q) [
        | true ↦ λ is. sym (ap (get m) (eqb-true q n is) ∙ h)
        | false ↦ λ is. refl
      ] refl))

  -- to keep the keys that pass a test changes nothing where the others are not held
  pub retain_keys-all : (m : FinMap nat_cmp X) (p : ℕ → Bool) → ((q : ℕ) → p q ≡ false → get m q ≡ None) → m ≡ retain_keys m p
  retain_keys-all m p h = one_map _ _ (λ q. sym (get-retain_keys m p q (λ x tied. ap p (sym (nat_cmp-IsAntisymmetric q x tied)))
      ∙ elim (p q) as (λ b. p q ≡ b → cond b (get m q) None ≡ get m q) [ true ↦ λ is. refl | false ↦ λ is. sym (h q is) ] refl))

  -- a key that does not pass may be removed first
  pub retain_keys-remove : (m : FinMap nat_cmp X) (p : ℕ → Bool) (n : ℕ) → p n ≡ false → retain_keys (remove m n) p ≡ retain_keys m p
  retain_keys-remove m p n h =
      let alike : (q x : ℕ) → nat_cmp q x ≡ Equal → p x ≡ p q = λ q x tied. ap p (sym (nat_cmp-IsAntisymmetric q x tied)) in
      one_map _ _ (λ q. get-retain_keys (remove m n) p q (alike q)
      ∙ ap (λ o. cond (p q) o None) (get-remove nat_cmp_total m n q ∙ ap (λ b. cond b None (get m q)) (unsigned_tied q n))
      ∙ elim (eqb q n) as (λ b. eqb q n ≡ b → cond (p q) (cond b None (get m q)) None ≡ cond (p q) (get m q) None) [
        | true ↦ λ is. let no : p q ≡ false = ap p (eqb-true q n is) ∙ h in rw (no)
        | false ↦ λ is. refl
      ] refl
      ∙ sym (get-retain_keys m p q (alike q)))

  -- a map that holds a number gets smaller as the number is removed
  pub len-remove_held : (m : FinMap nat_cmp X) (n : ℕ) → is_some (get m n) ≡ true → len (remove m n) < len m
  len-remove_held m n h =
      elim (cases_lt 0 (len m)) [
        | inl some ↦ rw (len-remove nat_cmp_total m n, h) (omega arith)
        | inr none ↦ absurd (false≢true (sym (ap is_some (ap (λ m. get m n) (empty_of_len m (omega arith)) ∙ get-empty nat_cmp n)) ∙ h))
      ]

  -- what is left of a map is no larger
  pub len-retain_keys : (m : FinMap nat_cmp X) (p : ℕ → Bool) → len (retain_keys m p) ≤ len m
  len-retain_keys m p =
      let alike : (q x : ℕ) → nat_cmp q x ≡ Equal → p x ≡ p q = λ q x tied. ap p (sym (nat_cmp-IsAntisymmetric q x tied)) in
      let kept = where_key nat_cmp p (entries m) in
      let up = is_sorted-where_key nat_cmp p (entries m) (entries_sorted m) in
      let same = one_map (retain_keys m p) (from_sorted kept) (λ q. get-retain_keys m p q (alike q)
      ∙ ap (λ o. cond (p q) o None) (get-entries m q)
      ∙ sym (get-from_sorted nat_cmp kept q up ∙ find-where_key nat_cmp p q (alike q) (entries m))) in
      let size = ap len same ∙ len-entries (from_sorted kept) ∙ ap length (entries-from_sorted nat_cmp kept up) in
      omega (arith, len-entries m, length-filter_both (λ (e : ℕ × X). p e.0) (λ e. not (p e.0)) (λ e. refl) (entries m))
