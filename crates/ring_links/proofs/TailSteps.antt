-- The steps of the tail keep the ring's rule.
use Rattle.std.proofs.Common.{◌≡◌, ℕ, ◌+◌, ◌%◌, ◌<◌, ◌≤◌, List, [], ◌∷◌, ◌++◌, length, set, get_or, Bool, true, false, Option, Some, None, refl, sym, ap, ◌∙◌, subst, ⊎_elim, mod-lt, arith, append-nil, length-append, length-set}
use Rattle.std.specs.Prelude.{MatchBool}
use Rattle.std.proofs.lemmas.Bool.Decides.{nat_tests}
use mathlib.Core.Option.{none, some}
use lib.ListN.{get_elem?}
use lib.Seq.{set-get_or}
use Rattle.atomic_table.specs.Table.{State, Act, step, keeps, takes, gives, stepped, carried_after, Valid, Allows}
use Rattle.atomic_table.proofs.Lists.{set_here}
use Rattle.ring_links.specs.declared.view.Pushing.{Pushing}
use Rattle.ring_links.specs.declared.view.View.{View}
use Rattle.ring_links.specs.Order.{TailKnows, Queue, Seated, tail_view, is_full, tail_after_look, tail_after_claim, tail_after_push, TailSaw, LookTells, ClaimTells, PushTells}
use Rattle.ring_links.proofs.Lists.{apart, at_end, below_length, elsewhere}
use Rattle.ring_links.proofs.Seats.{Seats, tail_moves}

abbrev Table : Type 0 → Type 0
Table T = State (Option T) (View T)

module _ {T : Type 0} (n id : ℕ) (t : Pushing T) where
  -- what the tail is told by a load
  saw : (s : Table T) (q : Queue n s) → get_elem? s.views id ≡ some (tail_view t) → t.out ≡ 0 → TailSaw n t (get_or s.words 1 0)
  saw s q at rests =
      let k = (q.seats id (tail_view t) at).0 refl in
      let is : get_or s.words 1 0 ≡ q.taken = ap (λ ws. get_or ws 1 0) q.words in
      let all : length t.items ≡ length q.log = ap length k.all in
      let a : t.taken ≤ q.taken = k.loaded in
      let b : t.told ≤ q.taken = k.heard in
      let c : q.taken + q.emptying ≤ length q.log = q.behind in
      let d : length q.log + q.filling ≤ q.taken + n = q.within in
      record { later = omega arith; heard = omega arith; behind = omega arith; within = omega arith }

  -- the tail's view changes, and nothing else
  sees : (s : Table T) (q : Queue n s) (w : Pushing T) → get_elem? s.views id ≡ some (tail_view t) → w.items ≡ t.items → w.out ≡ t.out → w.taken ≡ get_or s.words 1 0 → w.told ≡ t.told
      → Queue n (stepped s 1 (get_or s.words 1 0) id [] (tail_view w) keeps)
  sees s q w at items out taken told =
      let k = (q.seats id (tail_view t) at).0 refl in
      let is : get_or s.words 1 0 ≡ q.taken = ap (λ ws. get_or ws 1 0) q.words in
      let heard : t.told ≤ q.taken = k.heard in
      let mine : TailKnows (q.log ++ []) q.taken q.filling q.tail id w = record {
        here = k.here;
        all = items ∙ (k.all ∙ sym (append-nil q.log));
        out = out ∙ k.out;
        loaded = omega arith;
        heard = omega arith;
      } in
      let seats = tail_moves q.log [] q.taken q.filling q.filling q.emptying q.tail q.head s.views id w k.here mine q.seats in
      record {
        log = q.log;
        taken = q.taken;
        filling = q.filling;
        emptying = q.emptying;
        tail = q.tail;
        head = q.head;
        some_slot = q.some_slot;
        slots = q.slots;
        words = set-get_or s.words 1 0 ∙ q.words;
        behind = q.behind;
        within = q.within;
        filled = q.filled;
        vacant = q.vacant;
        seats = subst (λ (l : List T). Seats l q.taken q.filling q.emptying q.tail q.head (set s.views id (tail_view w))) (append-nil q.log) seats;
      }

  pub looks_at : t.out ≡ 0 → Allows (Queue n) n id (tail_view t, []) 1 (λ y. y) (LookTells (step n 1 0 0 none) (tail_view t, []))
  looks_at rests s q wide at small =
      let r : ℕ = get_or s.words 1 0 in
      (tail_view (tail_after_look t r), keeps, tt, sees s q (tail_after_look t r) at refl refl refl refl, (saw s q at rests, refl))

  -- what a load of a push owes: at b, whether there is no room, the view and the act
  abbrev Claimed : Table T → Bool → Type 0
  Claimed s b =
      (w : View T) × (a : Act (Option T)) × Valid s.homes [] a × Queue n (stepped s 1 (get_or s.words 1 0) id [] w a)
      × (TailSaw n t (get_or s.words 1 0)
      × MatchBool b (◌≡◌ {A = Seated T} (w, carried_after [] a) (tail_view (tail_after_look t (get_or s.words 1 0)), []))
      (◌≡◌ {A = Seated T} (w, carried_after [] a) (tail_view (tail_after_claim t (get_or s.words 1 0)), (length t.items % n, None) ∷ [])))

  -- the next slot goes out with the tail
  goes_out : (s : Table T) (q : Queue n s) → get_elem? s.views id ≡ some (tail_view t) → t.out ≡ 0 → length t.items < get_or s.words 1 0 + n
      → Queue n (stepped s 1 (get_or s.words 1 0) id [] (tail_view (tail_after_claim t (get_or s.words 1 0))) (takes (length t.items % n) None))
  goes_out s q at rests room =
      let r : ℕ = get_or s.words 1 0 in
      let m : ℕ = length t.items in
      let k = (q.seats id (tail_view t) at).0 refl in
      let is : r ≡ q.taken = ap (λ ws. get_or ws 1 0) q.words in
      let all : m ≡ length q.log = ap length k.all in
      let none_out : 0 ≡ q.filling = sym rests ∙ k.out in
      let heard : t.told ≤ q.taken = k.heard in
      let behind : q.taken + q.emptying ≤ length q.log = q.behind in
      let mine : TailKnows (q.log ++ []) q.taken 1 q.tail id (tail_after_claim t r) = record {
        here = k.here;
        all = k.all ∙ sym (append-nil q.log);
        out = refl;
        loaded = omega arith;
        heard = heard;
      } in
      record {
        log = q.log;
        taken = q.taken;
        filling = 1;
        emptying = q.emptying;
        tail = q.tail;
        head = q.head;
        some_slot = q.some_slot;
        slots = length-set s.homes (m % n) none ∙ q.slots;
        words = set-get_or s.words 1 0 ∙ q.words;
        behind = behind;
        within = omega arith;
        filled = λ p x a e.
            let low : q.taken + q.emptying ≤ p = a in
            let short : p < length q.log = below_length q.log p x e in
            elsewhere s.homes m p n none (λ same. apart p m n (omega arith) (omega arith) (sym same)) ∙ q.filled p x a e;
        vacant = λ p a b.
            let low : length q.log + 1 ≤ p = a in
            let high : p < q.taken + n = b in
            elsewhere s.homes m p n none (apart m p n (omega arith) (omega arith)) ∙ q.vacant p (omega arith) b;
        seats = subst (λ (l : List T). Seats l q.taken 1 q.emptying q.tail q.head (set s.views id (tail_view (tail_after_claim t r)))) (append-nil q.log)
            (tail_moves q.log [] q.taken q.filling 1 q.emptying q.tail q.head s.views id (tail_after_claim t r) k.here mine q.seats);
      }

  claimed_as : (s : Table T) (q : Queue n s) → get_elem? s.views id ≡ some (tail_view t) → t.out ≡ 0 → (b : Bool) → is_full n (length t.items) (get_or s.words 1 0) ≡ b → Claimed s b
  claimed_as s q at rests true full = (tail_view (tail_after_look t (get_or s.words 1 0)), keeps, tt, sees s q (tail_after_look t (get_or s.words 1 0)) at refl refl refl refl, (saw s q at rests, refl))
  claimed_as s q at rests false full =
      let r : ℕ = get_or s.words 1 0 in
      let m : ℕ = length t.items in
      let k = (q.seats id (tail_view t) at).0 refl in
      let told = saw s q at rests in
      let within : m ≤ r + n = told.within in
      let room : m < r + n = has_room m r within full in
      let is : r ≡ q.taken = ap (λ ws. get_or ws 1 0) q.words in
      let all : m ≡ length q.log = ap length k.all in
      let none_out : 0 ≡ q.filling = sym rests ∙ k.out in
      (tail_view (tail_after_claim t r), takes (m % n) None, q.vacant m (omega arith) (omega arith), goes_out s q at rests room, (told, refl))
    where
      has_room : (m r : ℕ) → m ≤ r + n → is_full n m r ≡ false → m < r + n
      has_room m r within full = grind (arith, nat_tests)

  pub claims_at : t.out ≡ 0 → Allows (Queue n) n id (tail_view t, []) 1 (λ y. y) (ClaimTells (step n 1 0 0 none) (tail_view t, []))
  claims_at rests s q wide at small = claimed_as s q at rests (is_full n (length t.items) (get_or s.words 1 0)) refl

  -- the slot comes back with the item, which joins what was pushed
  comes_back : (x : T) (new : ℕ) (s : Table T) (q : Queue n s) → get_elem? s.views id ≡ some (tail_view t) → t.out ≡ 1 → new ≡ length t.items + 1
      → Queue n (stepped s 0 new id ((length t.items % n, Some x) ∷ []) (tail_view (tail_after_push t (x ∷ []))) gives)
  comes_back x new s q at filling one_more =
      let m : ℕ = length t.items in
      let k = (q.seats id (tail_view t) at).0 refl in
      let all : m ≡ length q.log = ap length k.all in
      let one_out : 1 ≡ q.filling = sym filling ∙ k.out in
      let longer : length (q.log ++ x ∷ []) ≡ length q.log + 1 = length-append q.log (x ∷ []) in
      let behind : q.taken + q.emptying ≤ length q.log = q.behind in
      let within : length q.log + q.filling ≤ q.taken + n = q.within in
      let near : m % n < length s.homes = subst (λ (l : ℕ). m % n < l) (sym q.slots) (mod-lt m q.some_slot) in
      let mine : TailKnows (q.log ++ x ∷ []) q.taken 0 q.tail id (tail_after_push t (x ∷ [])) = record {
        here = k.here;
        all = ap (λ l. l ++ x ∷ []) k.all;
        out = refl;
        loaded = k.loaded;
        heard = k.heard;
      } in
      let new_is : new ≡ length (q.log ++ x ∷ []) = omega arith in
      record {
        log = q.log ++ x ∷ [];
        taken = q.taken;
        filling = 0;
        emptying = q.emptying;
        tail = q.tail;
        head = q.head;
        some_slot = q.some_slot;
        slots = length-set s.homes (m % n) (some (Some x)) ∙ q.slots;
        words = ap (λ ws. set ws 0 new) q.words ∙ (λ i. new_is i ∷ q.taken ∷ []);
        behind = omega arith;
        within = omega arith;
        filled = λ p y a e.
            let low : q.taken + q.emptying ≤ p = a in
            ⊎_elim
            (λ was.
            let short : p < length q.log = below_length q.log p y was in
            elsewhere s.homes m p n (some (Some x)) (λ same. apart p m n (omega arith) (omega arith) (sym same)) ∙ q.filled p y a was)
            (λ (h : (p ≡ length q.log) × (x ≡ y)).
            subst (λ (j : ℕ). get_elem? (set s.homes (m % n) (some (Some x))) (j % n) ≡ some (some (Some y))) (all ∙ sym h.0)
            (set_here s.homes (m % n) (some (Some x)) near ∙ ap (λ (z : T). some (some (Some z))) h.1))
            (at_end q.log x p y e);
        vacant = λ p a b.
            let low : length (q.log ++ x ∷ []) + 0 ≤ p = a in
            let high : p < q.taken + n = b in
            elsewhere s.homes m p n (some (Some x)) (apart m p n (omega arith) (omega arith)) ∙ q.vacant p (omega arith) b;
        seats = tail_moves q.log (x ∷ []) q.taken q.filling 0 q.emptying q.tail q.head s.views id (tail_after_push t (x ∷ [])) k.here mine q.seats;
      }

  pub pushes_at : (x : T) (new : ℕ) → t.out ≡ 1 → new ≡ length t.items + 1
      → Allows (Queue n) n id (tail_view t, (length t.items % n, Some x) ∷ []) 0 (λ _. new) (λ _. PushTells (step n 0 new 0 none) (tail_view t, (length t.items % n, Some x) ∷ []) new)
  pushes_at x new filling one_more s q wide at small = (tail_view (tail_after_push t (x ∷ [])), gives, tt, comes_back x new s q at filling one_more, refl)
