-- Lists read by `get_elem?`, beginnings of lists, and places in a ring.
use Rattle.std.proofs.Common.{◌≡◌, ◌≢◌, ◌⊎◌, ℕ, zero, suc, ◌+◌, ◌%◌, ◌<◌, ◌≤◌, List, [], ◌∷◌, ◌++◌, length, drop, set, Some, refl, sym, ap, ◌∙◌, subst, inl, inr, ⊎_elim, arith, length-append, append_assoc}
use Rattle.std.specs.Prelude.{slice_get}
use mathlib.Core.Option.{some, some-injective, some-ne-none}
use mathlib.Core.List.{IsPrefix}
use lib.ListN.{get_elem?}
use Rattle.atomic_table.proofs.Lists.{one_turn, set_else}

-- two numbers less than n apart have two places in a ring with n slots
pub apart : (a b n : ℕ) → a < b → b < a + n → b % n ≢ a % n
apart a b n lt near same = let e : a ≡ b = one_turn a b n (omega arith) near (sym same) in omega arith

module _ {A : Type 0} where
  pub at_end : (l : List A) (a : A) (j : ℕ) (b : A) → get_elem? (l ++ a ∷ []) j ≡ some b → (get_elem? l j ≡ some b) ⊎ ((j ≡ length l) × (a ≡ b))
  at_end [] a zero b e = inr (refl, some-injective a b e)
  at_end [] a (suc j) b e = absurd (some-ne-none b (sym e))
  at_end (x ∷ xs) a zero b e = inl e
  at_end (x ∷ xs) a (suc j) b e = ⊎_elim (λ h. inl h) (λ t. inr (ap suc t.0, t.1)) (at_end xs a j b e)

  pub there : (l : List A) (i : ℕ) → i < length l → (a : A) × (get_elem? l i ≡ some a)
  there [] i h = absurd (omega arith)
  there (x ∷ xs) zero h = (x, refl)
  there (x ∷ xs) (suc i) h = there xs i (omega arith)

  pub below_length : (l : List A) (i : ℕ) (a : A) → get_elem? l i ≡ some a → i < length l
  below_length [] i a e = absurd (some-ne-none a (sym e))
  below_length (x ∷ xs) zero a e = omega arith
  below_length (x ∷ xs) (suc i) a e = let h = below_length xs i a e in omega arith

  -- a slot elsewhere in the ring stays when one is set
  pub elsewhere : (homes : List A) (a b n : ℕ) (x : A) → b % n ≢ a % n → get_elem? (set homes (a % n) x) (b % n) ≡ get_elem? homes (b % n)
  elsewhere homes a b n x ne = set_else homes (a % n) (b % n) x ne

  pub longer_prefix : (xs log more : List A) → IsPrefix xs log → IsPrefix xs (log ++ more)
  longer_prefix xs log more p = (p.0 ++ more, sym (append_assoc xs p.0 more) ∙ ap (λ l. l ++ more) p.1)

  pub prefix_length : (xs log : List A) → IsPrefix xs log → length xs ≤ length log
  prefix_length xs log p = let e = ap length p.1 in omega (arith, length-append xs p.0)

  pub drop_front : (xs ys : List A) → drop (length xs) (xs ++ ys) ≡ ys
  drop_front [] ys = refl
  drop_front (x ∷ xs) ys = drop_front xs ys

  -- what a list has behind its beginning
  pub prefix_rest : (xs log : List A) → IsPrefix xs log → xs ++ drop (length xs) log ≡ log
  prefix_rest xs log p = let Q : List A → Type 0 = λ l. xs ++ drop (length xs) l ≡ l in subst Q p.1 (ap (λ l. xs ++ l) (drop_front xs p.0))

  pub first_prefix : (xs ys log : List A) → IsPrefix (xs ++ ys) log → IsPrefix xs log
  first_prefix xs ys log p = (ys ++ p.0, sym (append_assoc xs ys p.0) ∙ p.1)

  -- the item behind the first ones is the first of those that are known to follow
  next_of : (told rest : List A) (x : A) → get_elem? (told ++ rest) 0 ≡ some x → IsPrefix (x ∷ drop 1 told) (told ++ rest) × (0 < length told → slice_get told 0 ≡ Some x)
  next_of [] [] x e = absurd (some-ne-none x (sym e))
  next_of [] (y ∷ ys) x e = ((ys, λ i. sym (some-injective y x e) i ∷ ys), λ h. absurd (omega arith))
  next_of (y ∷ ys) rest x e = ((rest, λ i. sym (some-injective y x e) i ∷ (ys ++ rest)), λ _. ap Some (some-injective y x e))

  next_behind : (items told rest : List A) (x : A) → get_elem? (items ++ (told ++ rest)) (length items) ≡ some x
      → IsPrefix (items ++ (x ∷ drop 1 told)) (items ++ (told ++ rest)) × (0 < length told → slice_get told 0 ≡ Some x)
  next_behind [] told rest x e = next_of told rest x e
  next_behind (y ∷ ys) told rest x e = let k = next_behind ys told rest x e in ((k.0.0, ap (λ l. y ∷ l) k.0.1), k.1)

  pub next_item : (items told log : List A) (x : A) → IsPrefix (items ++ told) log → get_elem? log (length items) ≡ some x
      → IsPrefix ((items ++ x ∷ []) ++ drop 1 told) log × (0 < length told → slice_get told 0 ≡ Some x)
  next_item items told log x p e =
      let same : items ++ (told ++ p.0) ≡ log = sym (append_assoc items told p.0) ∙ p.1 in
      let k = next_behind items told p.0 x (ap (λ l. get_elem? l (length items)) same ∙ e) in
      ((k.0.0, ap (λ l. l ++ k.0.0) (append_assoc items (x ∷ []) (drop 1 told)) ∙ (k.0.1 ∙ same)), k.1)
