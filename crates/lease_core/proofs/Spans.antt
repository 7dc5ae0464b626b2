-- Adjoining spans stay so as the last one changes and as one is added.
use Rattle.std.proofs.Common.{◌≡◌, ℕ, ◌<◌, ◌≤◌, Bool, true, false, not, List, [], ◌∷◌, ◌++◌, refl, arith}
use Rattle.lease_core.specs.declared.entry.Holding.{Holding}
use Rattle.lease_core.specs.State.{with_last, last_or, holding_with_end, holding_with_send}
use Rattle.lease_core.specs.Holdings.{HasTurn, Adjoin, AreAdjoining}

grow_from : (b : ℕ) (t : Bool) (h : Holding) (hs : List Holding) (n m : ℕ) → n ≤ m → Adjoin b t (h ∷ hs) n → Adjoin b t (with_last (holding_with_end m) (h ∷ hs)) m
grow_from b t h [] n m le (p, e) = (record { starts = p.starts; forward = omega (arith, p.forward); turn = p.turn }, refl)
grow_from b t h (k ∷ ks) n m le (p, q) = (p, grow_from h.end (not t) k ks n m le q)

-- a message arrives
pub adjoin_grow : (hs : List Holding) (n m : ℕ) → n ≤ m → AreAdjoining hs n → AreAdjoining (with_last (holding_with_end m) hs) m
adjoin_grow [] n m le a = a
adjoin_grow (h ∷ []) n m le a = grow_from 0 true h [] n m le a
adjoin_grow (h ∷ k ∷ ks) n m le a = grow_from 0 true h (k ∷ ks) n m le a

count_from : (b : ℕ) (t : Bool) (h : Holding) (hs : List Holding) (n : ℕ) → Adjoin b t (h ∷ hs) n → Adjoin b t (with_last holding_with_send (h ∷ hs)) n
count_from b t h [] n (p, e) = (record { starts = p.starts; forward = p.forward; turn = p.turn }, e)
count_from b t h (k ∷ ks) n (p, q) = (p, count_from h.end (not t) k ks n q)

-- a library sends
pub adjoin_count : (hs : List Holding) (n : ℕ) → AreAdjoining hs n → AreAdjoining (with_last holding_with_send hs) n
adjoin_count [] n a = a
adjoin_count (h ∷ []) n a = count_from 0 true h [] n a
adjoin_count (h ∷ k ∷ ks) n a = count_from 0 true h (k ∷ ks) n a

-- the engine and a library
pub record TakeTurns (one other : ℕ) : Type 0 where
  pub from_engine : one ≡ 0 → 0 < other
  pub from_library : 0 < one → other ≡ 0

next_turn : (t : Bool) (one other : ℕ) → TakeTurns one other → HasTurn t one → HasTurn (not t) other
next_turn true one other turns h = turns.from_engine h
next_turn false one other turns h = turns.from_library h

push_from : (b : ℕ) (t : Bool) (h : Holding) (hs : List Holding) (n : ℕ) (k : Holding) → k.start ≡ n → k.start ≤ k.end → TakeTurns (last_or h hs).library k.library → Adjoin b t (h ∷ hs) n → Adjoin b t (h ∷ (hs ++ k ∷ [])) k.end
push_from b t h [] n k s f turns (p, e) = (p, (record { starts = omega arith; forward = f; turn = next_turn t h.library k.library turns p.turn }, refl))
push_from b t h (j ∷ js) n k s f turns (p, q) = (p, push_from h.end (not t) j js n k s f turns q)

-- the session changes hands
pub adjoin_push : (hs : List Holding) (d : Holding) (n : ℕ) (k : Holding) → k.start ≡ n → k.start ≤ k.end → TakeTurns (last_or d hs).library k.library → AreAdjoining hs n → AreAdjoining (hs ++ k ∷ []) k.end
adjoin_push [] d n k s f turns a = absurd a
adjoin_push (h ∷ hs) d n k s f turns a = push_from 0 true h hs n k s f turns a
