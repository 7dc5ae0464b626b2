-- The steps of the head keep the ring's rule.
use Rattle.std.proofs.Common.{◌≡◌, ℕ, ◌+◌, ◌%◌, ◌<◌, ◌≤◌, [], ◌∷◌, ◌++◌, length, set, get_or, Bool, true, false, eqb, Option, Some, None, refl, sym, ap, ◌∙◌, subst, mod-lt, arith, length-append, length-set}
use Rattle.std.specs.Prelude.{MatchBool, slice_get}
use Rattle.std.proofs.lemmas.Bool.Decides.{nat_tests}
use native.Mathlib.Nat.{add-mod_right}
use native.Mathlib.Decide.{ℕ_discrete}
use mathlib.Core.Option.{none, some}
use lib.ListN.{get_elem?}
use lib.Seq.{set-get_or}
use Rattle.atomic_table.specs.Table.{State, Act, step, keeps, takes, gives, stepped, carried_after, Valid, Allows}
use Rattle.atomic_table.proofs.Lists.{set_here}
use Rattle.ring_links.specs.declared.view.Popping.{Popping}
use Rattle.ring_links.specs.declared.view.View.{View}
use Rattle.ring_links.specs.Order.{HeadKnows, Queue, Seated, head_view, head_after_look, head_after_fetch, head_after_release, HeadSaw, FetchTells, ReleaseTells}
use Rattle.ring_links.proofs.Lists.{apart, there, below_length, elsewhere, prefix_length, next_item}
use Rattle.ring_links.proofs.Seats.{head_moves}

abbrev Table : Type 0 → Type 0
Table T = State (Option T) (View T)

module _ {T : Type 0} (n id : ℕ) (h : Popping T) where
  -- what the head is told by a load
  saw : (s : Table T) (q : Queue n s) → get_elem? s.views id ≡ some (head_view h) → h.out ≡ 0 → HeadSaw n h (get_or s.words 0 0)
  saw s q at rests =
      let k = (q.seats id (head_view h) at).1 refl in
      let is : get_or s.words 0 0 ≡ length q.log = ap (λ ws. get_or ws 0 0) q.words in
      let count : length h.items ≡ q.taken + q.emptying = k.count in
      let none_out : 0 ≡ q.emptying = sym rests ∙ k.out in
      let known : length (h.items ++ h.told) ≤ length q.log = prefix_length (h.items ++ h.told) q.log k.begins in
      let a : h.pushed ≤ length q.log = k.loaded in
      let d : length q.log + q.filling ≤ q.taken + n = q.within in
      record { later = omega arith; heard = omega (arith, length-append h.items h.told); within = omega arith }

  -- the pushed count is seen, and nothing else changes
  sees : (s : Table T) (q : Queue n s) → get_elem? s.views id ≡ some (head_view h) → Queue n (stepped s 0 (get_or s.words 0 0) id [] (head_view (head_after_look h (get_or s.words 0 0))) keeps)
  sees s q at =
      let r : ℕ = get_or s.words 0 0 in
      let k = (q.seats id (head_view h) at).1 refl in
      let is : r ≡ length q.log = ap (λ ws. get_or ws 0 0) q.words in
      let mine : HeadKnows q.log q.taken q.emptying q.head id (head_after_look h r) = record {
        here = k.here;
        begins = k.begins;
        count = k.count;
        out = k.out;
        loaded = omega arith;
      } in
      record {
        log = q.log;
        taken = q.taken;
        filling = q.filling;
        emptying = q.emptying;
        tail = q.tail;
        head = q.head;
        some_slot = q.some_slot;
        slots = q.slots;
        words = set-get_or s.words 0 0 ∙ q.words;
        behind = q.behind;
        within = q.within;
        filled = q.filled;
        vacant = q.vacant;
        seats = head_moves q.log q.taken q.taken q.filling q.emptying q.emptying q.tail q.head s.views id (head_after_look h r) (omega arith) k.here mine q.seats;
      }

  -- what a load of a pop owes: at b, whether all was taken, the view and the act
  abbrev Fetched : Table T → Bool → Type 0
  Fetched s b =
      (w : View T) × (a : Act (Option T)) × Valid s.homes [] a × Queue n (stepped s 0 (get_or s.words 0 0) id [] w a)
      × (HeadSaw n h (get_or s.words 0 0)
      × MatchBool b (◌≡◌ {A = Seated T} (w, carried_after [] a) (head_view (head_after_look h (get_or s.words 0 0)), []))
      ((x : T) × (◌≡◌ {A = Seated T} (w, carried_after [] a) (head_view (head_after_fetch h (get_or s.words 0 0) x), (length h.items % n, Some x) ∷ [])) × (0 < length h.told → slice_get h.told 0 ≡ Some x)))

  -- the slot of the next item goes out with the head
  goes_out : (x : T) (s : Table T) (q : Queue n s) → get_elem? s.views id ≡ some (head_view h) → h.out ≡ 0 → get_elem? q.log (length h.items) ≡ some x
      → Queue n (stepped s 0 (get_or s.words 0 0) id [] (head_view (head_after_fetch h (get_or s.words 0 0) x)) (takes (length h.items % n) (Some x)))
  goes_out x s q at rests next =
      let r : ℕ = get_or s.words 0 0 in
      let m : ℕ = length h.items in
      let k = (q.seats id (head_view h) at).1 refl in
      let is : r ≡ length q.log = ap (λ ws. get_or ws 0 0) q.words in
      let count : m ≡ q.taken + q.emptying = k.count in
      let none_out : 0 ≡ q.emptying = sym rests ∙ k.out in
      let short : m < length q.log = below_length q.log m x next in
      let within : length q.log + q.filling ≤ q.taken + n = q.within in
      let mine : HeadKnows q.log q.taken 1 q.head id (head_after_fetch h r x) = record {
        here = k.here;
        begins = (next_item h.items h.told q.log x k.begins next).0;
        count = omega (arith, length-append h.items (x ∷ []));
        out = refl;
        loaded = omega arith;
      } in
      record {
        log = q.log;
        taken = q.taken;
        filling = q.filling;
        emptying = 1;
        tail = q.tail;
        head = q.head;
        some_slot = q.some_slot;
        slots = length-set s.homes (m % n) none ∙ q.slots;
        words = set-get_or s.words 0 0 ∙ q.words;
        behind = omega arith;
        within = within;
        filled = λ p y a e.
            let low : q.taken + 1 ≤ p = a in
            let high : p < length q.log = below_length q.log p y e in
            elsewhere s.homes m p n none (apart m p n (omega arith) (omega arith)) ∙ q.filled p y (omega arith) e;
        vacant = λ p a b.
            let low : length q.log + q.filling ≤ p = a in
            let high : p < q.taken + n = b in
            elsewhere s.homes m p n none (apart m p n (omega arith) (omega arith)) ∙ q.vacant p a b;
        seats = head_moves q.log q.taken q.taken q.filling q.emptying 1 q.tail q.head s.views id (head_after_fetch h r x) (omega arith) k.here mine q.seats;
      }

  fetched_as : (s : Table T) (q : Queue n s) → get_elem? s.views id ≡ some (head_view h) → h.out ≡ 0 → (b : Bool) → eqb (get_or s.words 0 0) (length h.items) ≡ b → Fetched s b
  fetched_as s q at rests true all = (head_view (head_after_look h (get_or s.words 0 0)), keeps, tt, sees s q at, (saw s q at rests, refl))
  fetched_as s q at rests false more =
      let r : ℕ = get_or s.words 0 0 in
      let m : ℕ = length h.items in
      let k = (q.seats id (head_view h) at).1 refl in
      let told = saw s q at rests in
      let heard : m + length h.told ≤ r = told.heard in
      let short : m < r = is_more m r (omega arith) more in
      let is : r ≡ length q.log = ap (λ ws. get_or ws 0 0) q.words in
      let count : m ≡ q.taken + q.emptying = k.count in
      let next = there q.log m (omega arith) in (
        head_view (head_after_fetch h r next.0),
        takes (m % n) (Some next.0),
        q.filled m next.0 (omega arith) next.1,
        goes_out next.0 s q at rests next.1,
        (told, (next.0, refl, (next_item h.items h.told q.log next.0 k.begins next.1).1)),
      )
    where
      is_more : (m r : ℕ) → m ≤ r → eqb r m ≡ false → m < r
      is_more m r le more = grind (arith, nat_tests)

  pub fetches_at : h.out ≡ 0 → Allows (Queue n) n id (head_view h, []) 0 (λ y. y) (FetchTells (step n 0 0 0 none) (head_view h, []))
  fetches_at rests s q wide at small = fetched_as s q at rests (eqb (get_or s.words 0 0) (length h.items)) refl

  -- the slot comes back, which is empty
  comes_back : (i new : ℕ) (s : Table T) (q : Queue n s) → get_elem? s.views id ≡ some (head_view h) → h.out ≡ 1 → new ≡ length h.items → (i + 1) ≡ length h.items
      → Queue n (stepped s 1 new id ((i % n, None) ∷ []) (head_view (head_after_release h)) gives)
  comes_back i new s q at emptying new_is last =
      let m : ℕ = length h.items in
      let k = (q.seats id (head_view h) at).1 refl in
      let count : m ≡ q.taken + q.emptying = k.count in
      let one_out : 1 ≡ q.emptying = sym emptying ∙ k.out in
      let behind : q.taken + q.emptying ≤ length q.log = q.behind in
      let within : length q.log + q.filling ≤ q.taken + n = q.within in
      let near : i % n < length s.homes = subst (λ (l : ℕ). i % n < l) (sym q.slots) (mod-lt i q.some_slot) in
      let mine : HeadKnows q.log m 0 q.head id (head_after_release h) = record {
        here = k.here;
        begins = k.begins;
        count = omega arith;
        out = refl;
        loaded = k.loaded;
      } in
      record {
        log = q.log;
        taken = m;
        filling = q.filling;
        emptying = 0;
        tail = q.tail;
        head = q.head;
        some_slot = q.some_slot;
        slots = length-set s.homes (i % n) (some None) ∙ q.slots;
        words = ap (λ ws. set ws 1 new) q.words ∙ (λ j. length q.log ∷ new_is j ∷ []);
        behind = omega arith;
        within = omega arith;
        filled = λ p y a e.
            let low : m + 0 ≤ p = a in
            let high : p < length q.log = below_length q.log p y e in
            elsewhere s.homes i p n (some None) (apart i p n (omega arith) (omega arith)) ∙ q.filled p y (omega arith) e;
        vacant = λ p a b.
            let low : length q.log + q.filling ≤ p = a in
            let high : p < m + n = b in
            elim (ℕ_discrete p (i + n)) [
              | yes e ↦
                  let same : p % n ≡ i % n = ap (λ (z : ℕ). z % n) e ∙ add-mod_right i n in
                  subst (λ (z : ℕ). get_elem? (set s.homes (i % n) (some None)) z ≡ some (some None)) (sym same) (set_here s.homes (i % n) (some None) near)
              | no ne ↦ elsewhere s.homes i p n (some None) (apart i p n (omega arith) (omega arith)) ∙ q.vacant p a (omega arith)
            ];
        seats = head_moves q.log q.taken m q.filling q.emptying 0 q.tail q.head s.views id (head_after_release h) (omega arith) k.here mine q.seats;
      }

  pub releases_at : (i new : ℕ) → h.out ≡ 1 → new ≡ length h.items → i + 1 ≡ length h.items
      → Allows (Queue n) n id (head_view h, (i % n, None) ∷ []) 1 (λ _. new) (λ _. ReleaseTells (step n 1 new 0 none) (head_view h, (i % n, None) ∷ []) new)
  releases_at i new emptying new_is last s q wide at small = (head_view (head_after_release h), gives, tt, comes_back i new s q at emptying new_is last, refl)
