-- A ring whose items were all popped has nothing but empty slots.
use Rattle.std.proofs.Common.{◌≡◌, ℕ, suc, ◌+◌, ◌*◌, ◌/◌, ◌%◌, ◌<◌, ◌≤◌, List, [], ◌∷◌, ◌++◌, length, take, drop, Option, Some, None, refl, sym, ap, ◌∙◌, subst, mod-lt, suc-mul, div-add-mod', lt_of_not-le, append_assoc, zero, add-one, arith}
use Rattle.std.specs.Prelude.{slice_get}
use mathlib.Core.Option.{some}
use native.Mathlib.Decide.{dec_le}
use Rattle.std.proofs.lemmas.Nat.{mod-mul-add}
use lib.ListN.{get_elem?}
use Rattle.atomic_table.specs.Table.{State, Final, Seen}
use Rattle.ring_links.specs.declared.view.Pushing.{Pushing}
use Rattle.ring_links.specs.declared.view.Popping.{Popping}
use Rattle.ring_links.specs.declared.view.View.{View}
use Rattle.ring_links.specs.Order.{Queue, both_view, AreVacant}

-- each place of a ring is that of one of n numbers in a row
turn_at : (t n i : ℕ) → i < n → (p : ℕ) × (t ≤ p) × (p < t + n) × (p % n ≡ i)
turn_at t n i lt = go (dec_le (t % n) i)
  where
    go : Dec (t % n ≤ i) → (p : ℕ) × (t ≤ p) × (p < t + n) × (p % n ≡ i)
    go (yes low) = let whole = div-add-mod' t n in let pos : 0 < n = omega arith in let small = mod-lt t pos in
        let base : ℕ = t / n * n in let part : ℕ = t % n in let is : base + part ≡ t = whole in
        (base + i, omega arith, omega arith, mod-mul-add (t / n) n i lt)
    go (no high) = let whole = div-add-mod' t n in let pos : 0 < n = omega arith in let small : t % n < n = mod-lt t pos in let above : i < t % n = lt_of_not-le high in
        let base : ℕ = t / n * n in let part : ℕ = t % n in let is : base + part ≡ t = whole in let next : suc (t / n) * n ≡ base + n = suc-mul (t / n) n in
        (suc (t / n) * n + i, omega arith, omega arith, mod-mul-add (suc (t / n)) n i lt)

module _ {T : Type 0} (n id : ℕ) (t : Pushing T) (h : Popping T) where
  vacant_in : (s : State (Option T) (View T)) (q : Queue n s) → get_elem? s.views id ≡ some (both_view t h) → t.out ≡ 0 → h.out ≡ 0 → h.items ≡ t.items → (i : ℕ) → i < n → get_elem? s.homes i ≡ some (some None)
  vacant_in s q at tail_rests head_rests same i lt =
      let tail = (q.seats id (both_view t h) at).0 refl in
      let head = (q.seats id (both_view t h) at).1 refl in
      let all : length t.items ≡ length q.log = ap length tail.all in
      let none_in : 0 ≡ q.filling = sym tail_rests ∙ tail.out in
      let none_out : 0 ≡ q.emptying = sym head_rests ∙ head.out in
      let count : length h.items ≡ q.taken + q.emptying = head.count in
      let both : length h.items ≡ length t.items = ap length same in
      let p = turn_at q.taken n i lt in
      subst (λ (k : ℕ). get_elem? s.homes k ≡ some (some None)) p.3 (q.vacant p.0 (let low : q.taken ≤ p.0 = p.1 in omega arith) p.2)

  -- what is at the end in the slots
  pub left_vacant : (v : View T) → v ≡ both_view t h → t.out ≡ 0 → h.out ≡ 0 → h.items ≡ t.items → (ws : List ℕ) (xs : List (Option T)) → Final (Seen (Queue n) id v) ws xs → AreVacant xs
  left_vacant v is tail_rests head_rests same ws xs last i lt =
      let s = last.0 in
      let q = last.1.0 in
      let slots : length s.homes ≡ n = q.slots in
      let as_long : length s.homes ≡ length xs = last.3 in
      last.4 i None (vacant_in s q (last.1.1 ∙ ap some is) tail_rests head_rests same i (omega arith))

module _ {A : Type 0} where
  -- one item more of those that were told
  pub take_next : (told now : List A) (k : ℕ) (x : A) → now ≡ drop k told → Some x ≡ slice_get now 0 → take (k + 1) told ≡ take k told ++ x ∷ []
  take_next told now k x is e = rw add-one (go told k (ap (λ l. slice_get l 0) (sym is) ∙ sym e))
    where
      go : (xs : List A) (i : ℕ) → slice_get (drop i xs) 0 ≡ Some x → take (suc i) xs ≡ take i xs ++ x ∷ []
      go [] zero e = absurd (cc)
      go [] (suc i) e = absurd (cc)
      go (y ∷ ys) zero e = cc
      go (y ∷ ys) (suc i) e = ap (λ l. y ∷ l) (go ys i e)

  -- and it joins what came of them before
  pub joined : (front was now told : List A) (k : ℕ) (x : A) → was ≡ front ++ take k told → now ≡ was ++ x ∷ [] → take (k + 1) told ≡ take k told ++ x ∷ [] → now ≡ front ++ take (k + 1) told
  joined front was now told k x had is next = is ∙ (ap (λ l. l ++ x ∷ []) had ∙ (append_assoc front (take k told) (x ∷ []) ∙ ap (λ l. front ++ l) (sym next)))
