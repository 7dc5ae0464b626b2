-- A ring begins under its rule, and keeps it where its ends are cut apart, joined, and compared.
use Rattle.std.proofs.Common.{◌≡◌, ◌≢◌, ℕ, zero, suc, ◌+◌, ◌%◌, ◌<◌, ◌≤◌, List, [], ◌∷◌, ◌++◌, length, drop, set, map, replicate, true, Option, None, refl, sym, ap, ◌∙◌, subst, ⊎_elim, mod-lt, arith, append-nil}
use mathlib.Core.Option.{none, some, some-injective, some-ne-none}
use lib.ListN.{get_elem?}
use lib.Seq.{set-get_or}
use Rattle.atomic_table.specs.Table.{State, step, keeps, opening, Splits, Joins, Allows}
use Rattle.atomic_table.proofs.Lists.{at_set, at_map, set_else}
use Rattle.ring_links.specs.declared.view.Pushing.{Pushing}
use Rattle.ring_links.specs.declared.view.Popping.{Popping}
use Rattle.ring_links.specs.declared.view.View.{View}
use Rattle.ring_links.specs.Order.{HeadKnows, Knows, Queue, new_pushing, new_popping, both_view, nobody, tail_part, head_part, both_parts, tail_after_meeting, head_after_meeting, HaveMet, MeetingTells}
use Rattle.ring_links.proofs.Lists.{at_end, prefix_rest, first_prefix}
use Rattle.ring_links.proofs.Seats.{Seats, off, seats_set}

abbrev Table : Type 0 → Type 0
Table T = State (Option T) (View T)

all_same : {A : Type 0} (a : A) (n i : ℕ) → i < n → get_elem? (replicate n a) i ≡ some a
all_same a zero i h = absurd (omega arith)
all_same a (suc n) zero h = refl
all_same a (suc n) (suc i) h = all_same a n i (omega arith)

length-same : {A B : Type 0} (f : A → B) (a : A) (n : ℕ) → length (map f (replicate n a)) ≡ n
length-same f a zero = refl
length-same f a (suc n) = ap suc (length-same f a n)

pub opens : {T : Type 0} (n : ℕ) → 0 < n → Queue n (opening (0 ∷ 0 ∷ []) (replicate {A = Option T} n None) (both_view (new_pushing {T = T}) new_popping))
opens {T} n pos = record {
  log = [];
  taken = 0;
  filling = 0;
  emptying = 0;
  tail = 0;
  head = 0;
  some_slot = pos;
  slots = length-same some None n;
  words = refl;
  behind = omega arith;
  within = omega arith;
  filled = λ p x a e. absurd (some-ne-none x (sym e));
  vacant = λ p a b. at_map some (replicate n None) (p % n) None (all_same None n (p % n) (mod-lt p pos));
  seats = only;
}
  where
    only : Seats [] 0 0 0 0 0 (both_view (new_pushing {T = T}) new_popping ∷ [])
    only zero v e = subst (Knows [] 0 0 0 0 0 0) (some-injective (both_view new_pushing new_popping) v e)
        ((λ _. record { here = refl; all = refl; out = refl; loaded = omega arith; heard = omega arith }), (λ _. record { here = refl; begins = ([], refl); count = refl; out = refl; loaded = omega arith }))
    only (suc j) v e = absurd (some-ne-none v (sym e))

module _ {T : Type 0} (n id : ℕ) where
  -- another seat is the head
  moved_head : (log : List T) (taken emptying head head' j j' : ℕ) (h : Popping T) → j' ≡ head' → HeadKnows log taken emptying head j h → HeadKnows log taken emptying head' j' h
  moved_head log taken emptying head head' j j' h here k = record { here = here; begins = k.begins; count = k.count; out = k.out; loaded = k.loaded }

  -- the views and the head's seat change, and nothing else
  reseated : (s : Table T) (q : Queue n s) (views : List (View T)) (head : ℕ) → Seats q.log q.taken q.filling q.emptying q.tail head views → Queue n record { words = s.words; homes = s.homes; views = views }
  reseated s q views head seats = record {
    log = q.log;
    taken = q.taken;
    filling = q.filling;
    emptying = q.emptying;
    tail = q.tail;
    head = head;
    some_slot = q.some_slot;
    slots = q.slots;
    words = q.words;
    behind = q.behind;
    within = q.within;
    filled = q.filled;
    vacant = q.vacant;
    seats = seats;
  }

  -- the head leaves a seat for a new one
  pub parts : (v : View T) → v.pops ≡ true → Splits (Queue n) id v (tail_part v) (head_part v)
  parts v pops s q at =
      let mine = q.seats id v at in
      let front : List (View T) = set s.views id (tail_part v) in
      reseated s q (front ++ head_part v ∷ []) (length front) (λ j u e.
      ⊎_elim
      (λ there. ⊎_elim
      (λ (x : (j ≡ id) × (tail_part v ≡ u)).
      subst (λ (y : ℕ × View T). Knows q.log q.taken q.filling q.emptying q.tail (length front) y.0 y.1) (λ i. (sym x.0 i, x.1 i)) ((λ p. mine.0 p), λ f. off f))
      (λ (x : (j ≢ id) × (get_elem? s.views j ≡ some u)).
      let theirs = q.seats j u x.1 in
      ((λ p. theirs.0 p), λ p. absurd (x.0 ((theirs.1 p).here ∙ sym (mine.1 pops).here))))
      (at_set s.views id j (tail_part v) u there))
      (λ (x : (j ≡ length front) × (head_part v ≡ u)).
      subst (Knows q.log q.taken q.filling q.emptying q.tail (length front) j) x.1 ((λ f. off f), λ p. moved_head q.log q.taken q.emptying q.head (length front) id j v.head x.0 (mine.1 p)))
      (at_end front (head_part v) j u e))

  -- the head comes into the tail's seat
  pub joins : (v w : View T) (other : ℕ) → v.pushes ≡ true → w.pops ≡ true → Joins (Queue n) id v other w (both_parts v w) nobody
  joins v w other pushes pops s q at not_me there =
      let mine = q.seats id v at in
      let theirs = q.seats other w (sym (set_else s.views id other (both_parts v w) not_me) ∙ there) in
      reseated s q (set (set s.views id (both_parts v w)) other nobody) id
      (seats_set q.log q.taken q.filling q.emptying q.tail id (set s.views id (both_parts v w)) other nobody ((λ f. off f), λ f. off f)
      (λ j u ne e. ⊎_elim
      (λ (x : (j ≡ id) × (both_parts v w ≡ u)).
      subst (λ (y : ℕ × View T). Knows q.log q.taken q.filling q.emptying q.tail id y.0 y.1) (λ i. (sym x.0 i, x.1 i))
      ((λ _. mine.0 pushes), λ _. moved_head q.log q.taken q.emptying q.head id other id w.head refl (theirs.1 pops)))
      (λ (x : (j ≢ id) × (get_elem? s.views j ≡ some u)).
      let k = q.seats j u x.1 in
      ((λ p. k.0 p), λ p. absurd (ne ((k.1 p).here ∙ sym (theirs.1 pops).here))))
      (at_set s.views id j (both_parts v w) u e)))

  module _ (t : Pushing T) (h : Popping T) where
    -- what both ends are told by a load
    met : (s : Table T) (q : Queue n s) → get_elem? s.views id ≡ some (both_view t h) → h.out ≡ 0 → HaveMet n t h
    met s q at rests =
        let tail = (q.seats id (both_view t h) at).0 refl in
        let head = (q.seats id (both_view t h) at).1 refl in
        let all : length t.items ≡ length q.log = ap length tail.all in
        let count : length h.items ≡ q.taken + q.emptying = head.count in
        let none_out : 0 ≡ q.emptying = sym rests ∙ head.out in
        let a : t.taken ≤ q.taken = tail.loaded in
        let b : t.told ≤ q.taken = tail.heard in
        let c : h.pushed ≤ length q.log = head.loaded in
        let d : length q.log + q.filling ≤ q.taken + n = q.within in
        record {
          begins = subst (λ (l : List T). h.items ++ drop (length h.items) l ≡ l) (sym tail.all) (prefix_rest h.items q.log (first_prefix h.items h.told q.log head.begins));
          taken = omega arith;
          heard = omega arith;
          pushed = omega arith;
          within = omega arith;
        }

    pub compares_at : h.out ≡ 0 → Allows (Queue n) n id (both_view t h, []) 0 (λ y. y) (MeetingTells (step n 0 0 0 none) (both_view t h, []))
    compares_at rests s q wide at small =
        let tail = (q.seats id (both_view t h) at).0 refl in
        let head = (q.seats id (both_view t h) at).1 refl in
        let m : ℕ = length h.items in
        let count : m ≡ q.taken + q.emptying = head.count in
        let none_out : 0 ≡ q.emptying = sym rests ∙ head.out in
        let told = met s q at rests in
        let t' : Pushing T = tail_after_meeting t m in
        let h' : Popping T = head_after_meeting h (drop m t.items) in
        let seats : Seats q.log q.taken q.filling q.emptying q.tail q.head (set s.views id (both_view t' h')) =
        seats_set q.log q.taken q.filling q.emptying q.tail q.head s.views id (both_view t' h') (
          (λ _. record { here = tail.here; all = tail.all; out = tail.out; loaded = tail.loaded; heard = omega arith }),
          λ _. record { here = head.here; begins = ([], append-nil (h.items ++ drop m t.items) ∙ (told.begins ∙ tail.all)); count = head.count; out = head.out; loaded = head.loaded },
        )
        (λ j v _ e. q.seats j v e) in (
          both_view t' h',
          keeps,
          tt,
          subst (λ (ws : List ℕ). Queue n record { words = ws; homes = s.homes; views = set s.views id (both_view t' h') }) (sym (set-get_or s.words 0 0)) (reseated s q (set s.views id (both_view t' h')) q.head seats),
          (told, refl),
        )
