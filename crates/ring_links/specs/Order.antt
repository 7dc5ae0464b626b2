-- The rule of a ring, over its slots, its two words and what its seats know, and what each step tells.
-- Word 0 is the pushed count and word 1 the taken count. The item that was pushed as number p, counted from 0, lies in the slot p % n.
use Rattle.std.specs.Prelude.{◌≡◌, ℕ, ◌+◌, ◌%◌, ◌<◌, ◌≤◌, List, [], ◌∷◌, ◌++◌, length, drop, Bool, true, false, ◌==◌, ◌||◌, MatchBool, Option, Some, None, option_to_list, slice_get}
use mathlib.Core.Option.{some}
use mathlib.Core.List.{IsPrefix}
use lib.ListN.{get_elem?}
use Rattle.atomic_table.specs.Table.{State, Me, Step}
use Rattle.ring_links.specs.declared.view.Pushing.{Pushing}
use Rattle.ring_links.specs.declared.view.Popping.{Popping}
use Rattle.ring_links.specs.declared.view.View.{View}

module _ {T : Type 0} (log : List T) (taken : ℕ) where
  -- what the tail knows: all that was pushed, and of the taken count no more than is so
  pub record TailKnows (filling seat j : ℕ) (t : Pushing T) : Type 0 where
    pub here : j ≡ seat
    pub all : t.items ≡ log
    pub out : t.out ≡ filling
    pub loaded : t.taken ≤ taken
    pub heard : t.told ≤ taken

  -- what the head knows: what it popped and was told of begins what was pushed, and of the pushed count no more than is so
  pub record HeadKnows (emptying seat j : ℕ) (h : Popping T) : Type 0 where
    pub here : j ≡ seat
    pub begins : IsPrefix (h.items ++ h.told) log
    pub count : length h.items ≡ taken + emptying
    pub out : h.out ≡ emptying
    pub loaded : h.pushed ≤ length log

  abbrev pub Knows : ℕ → ℕ → ℕ → ℕ → ℕ → View T → Type 0
  Knows filling emptying tail head j v = (v.pushes ≡ true → TailKnows filling tail j v.tail) × (v.pops ≡ true → HeadKnows emptying head j v.head)

-- The rule of a ring with n slots. `log` is all that was pushed. `filling` is 1 while a push is in flight, and `emptying` while a pop is. `tail` and `head` are the seats of the two ends
pub record Queue {T : Type 0} (n : ℕ) (s : State (Option T) (View T)) : Type 0 where
  pub log : List T
  pub taken : ℕ
  pub filling : ℕ
  pub emptying : ℕ
  pub tail : ℕ
  pub head : ℕ
  pub some_slot : 0 < n
  pub slots : length s.homes ≡ n
  pub words : s.words ≡ length log ∷ taken ∷ []
  pub behind : taken + emptying ≤ length log
  pub within : length log + filling ≤ taken + n
  -- the slots from taken to pushed are at home and hold the items in order, but the first while a pop is in flight
  pub filled : (p : ℕ) (x : T) → taken + emptying ≤ p → get_elem? log p ≡ some x → get_elem? s.homes (p % n) ≡ some (some (Some x))
  -- all others are at home and empty, but the next one while a push is in flight
  pub vacant : (p : ℕ) → length log + filling ≤ p → p < taken + n → get_elem? s.homes (p % n) ≡ some (some None)
  pub seats : (j : ℕ) (v : View T) → get_elem? s.views j ≡ some v → Knows log taken filling emptying tail head j v

-- the count at which a pushed count stays
abbrev pub most_pushed : ℕ
most_pushed = 18446744073709551615

-- whether a ring with n slots has no room at these counts
abbrev pub is_full : ℕ → ℕ → ℕ → Bool
is_full n pushed taken = (pushed == taken + n) || (pushed == most_pushed)

abbrev pub Seated : Type 0 → Type 0
Seated T = Me (Option T) (View T)

module _ {T : Type 0} where
  abbrev pub new_pushing : Pushing T
  new_pushing = record { items = []; taken = 0; loads = 0; told = 0; out = 0 }

  abbrev pub new_popping : Popping T
  new_popping = record { items = []; pushed = 0; loads = 0; told = []; out = 0 }

  -- a seat that is the tail, the head, both or neither
  abbrev pub tail_view : Pushing T → View T
  tail_view t = record { pushes = true; tail = t; pops = false; head = new_popping }

  abbrev pub head_view : Popping T → View T
  head_view h = record { pushes = false; tail = new_pushing; pops = true; head = h }

  abbrev pub both_view : Pushing T → Popping T → View T
  both_view t h = record { pushes = true; tail = t; pops = true; head = h }

  abbrev pub nobody : View T
  nobody = record { pushes = false; tail = new_pushing; pops = false; head = new_popping }

  -- a view without its head, and its head alone
  abbrev pub tail_part : View T → View T
  tail_part v = record v { pops = false; head = new_popping }

  abbrev pub head_part : View T → View T
  head_part v = record v { pushes = false; tail = new_pushing }

  abbrev pub both_parts : View T → View T → View T
  both_parts v w = both_view v.tail w.head

  -- the tail after a load that found r
  abbrev pub tail_after_look : Pushing T → ℕ → Pushing T
  tail_after_look t r = record t { taken = r; loads = t.loads + 1 }

  -- and with a slot out
  abbrev pub tail_after_claim : Pushing T → ℕ → Pushing T
  tail_after_claim t r = record t { taken = r; loads = t.loads + 1; out = 1 }

  -- and once it gave it back with these items
  abbrev pub tail_after_push : Pushing T → List T → Pushing T
  tail_after_push t xs = record t { items = t.items ++ xs; out = 0 }

  abbrev pub tail_after_meeting : Pushing T → ℕ → Pushing T
  tail_after_meeting t k = record t { told = k }

  -- the head after a load that found r
  abbrev pub head_after_look : Popping T → ℕ → Popping T
  head_after_look h r = record h { pushed = r; loads = h.loads + 1 }

  -- and with the slot of the item x out
  abbrev pub head_after_fetch : Popping T → ℕ → T → Popping T
  head_after_fetch h r x = record { items = h.items ++ x ∷ []; pushed = r; loads = h.loads + 1; told = drop 1 h.told; out = 1 }

  abbrev pub head_after_release : Popping T → Popping T
  head_after_release h = record h { out = 0 }

  abbrev pub head_after_meeting : Popping T → List T → Popping T
  head_after_meeting h xs = record h { told = xs }

  -- what the tail learns of the taken count that it found, in a ring with n slots
  pub record TailSaw (n : ℕ) (t : Pushing T) (r : ℕ) : Type 0 where
    pub later : t.taken ≤ r
    pub heard : t.told ≤ r
    pub behind : r ≤ length t.items
    pub within : length t.items ≤ r + n

  -- and the head of the pushed count
  pub record HeadSaw (n : ℕ) (h : Popping T) (r : ℕ) : Type 0 where
    pub later : h.pushed ≤ r
    pub heard : length h.items + length h.told ≤ r
    pub within : r ≤ length h.items + n

  -- what both ends know when they meet
  pub record HaveMet (n : ℕ) (t : Pushing T) (h : Popping T) : Type 0 where
    pub begins : h.items ++ drop (length h.items) t.items ≡ t.items
    pub taken : t.taken ≤ length h.items
    pub heard : t.told ≤ length h.items
    pub pushed : h.pushed ≤ length t.items
    pub within : length t.items ≤ length h.items + n

  -- the load of `room`
  abbrev pub LookTells : Step (Option T) → Seated T → ℕ → Seated T → Type 0
  LookTells st m r m' = TailSaw st.slots m.0.tail r × (m' ≡ (tail_view (tail_after_look m.0.tail r), []))

  -- the load of a push, which takes the slot unless the ring is full
  abbrev pub ClaimTells : Step (Option T) → Seated T → ℕ → Seated T → Type 0
  ClaimTells st m r m' =
      TailSaw st.slots m.0.tail r
      × MatchBool (is_full st.slots (length m.0.tail.items) r)
      (m' ≡ (tail_view (tail_after_look m.0.tail r), []))
      (m' ≡ (tail_view (tail_after_claim m.0.tail r), (length m.0.tail.items % st.slots, None) ∷ []))

  abbrev pub carried_items : List (ℕ × Option T) → List T
  carried_items [] = []
  carried_items (x ∷ xs) = option_to_list x.1

  -- the store of a push, which gives the slot back with what it holds
  abbrev pub PushTells : Step (Option T) → Seated T → ℕ → Seated T → Type 0
  PushTells st m r m' = m' ≡ (tail_view (tail_after_push m.0.tail (carried_items m.1)), [])

  -- the load of a pop, which takes the slot of the next item unless there is none
  abbrev pub FetchTells : Step (Option T) → Seated T → ℕ → Seated T → Type 0
  FetchTells st m r m' =
      HeadSaw st.slots m.0.head r
      × MatchBool (r == length m.0.head.items)
      (m' ≡ (head_view (head_after_look m.0.head r), []))
      ((x : T) × (m' ≡ (head_view (head_after_fetch m.0.head r x), (length m.0.head.items % st.slots, Some x) ∷ [])) × (0 < length m.0.head.told → slice_get m.0.head.told 0 ≡ Some x))

  -- the store of a pop, which gives the slot back
  abbrev pub ReleaseTells : Step (Option T) → Seated T → ℕ → Seated T → Type 0
  ReleaseTells st m r m' = m' ≡ (head_view (head_after_release m.0.head), [])

  -- the load of a meeting, by a seat that is both ends
  abbrev pub MeetingTells : Step (Option T) → Seated T → ℕ → Seated T → Type 0
  MeetingTells st m r m' =
      HaveMet st.slots m.0.tail m.0.head
      × (m' ≡ (both_view (tail_after_meeting m.0.tail (length m.0.head.items)) (head_after_meeting m.0.head (drop (length m.0.head.items) m.0.tail.items)), []))

-- each of these slots is empty
abbrev pub AreVacant : {T : Type 0} → List (Option T) → Type 0
AreVacant {T} xs = (i : ℕ) → i < length xs → get_elem? xs i ≡ some None
