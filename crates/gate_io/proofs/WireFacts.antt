-- What a wire in memory keeps when room is reserved.
use Rattle.std.proofs.Common.{◌≡◌, ℕ, ◌+◌, ◌-◌, ◌<◌, true, false, List, [], ◌∷◌, ◌++◌, sym, ap, ◌∙◌, map, get_or, set, length, take, drop, arith}
use Rattle.std.specs.Prelude.{if◌then◌else◌}
use Rattle.std.proofs.Math.ListN.{get_or-map}
use Rattle.std.proofs.Math.Seq.{map-set_same}
use Rattle.std.proofs.lemmas.List.{take_more, drop_more, take_more_set, drop-set-lt, map-append, take_at, length-map}
use Rattle.gate_io.specs.MemWire.{LinkState, WireState, new_link, link_reserved, without_room, AreLinks, SameButRoom, door_of, link_at, state_at, is_of_dial}
use Rattle.gate_io.specs.Wire.{IsOpen}

-- a slice that is written back whole
pub written_back : (links items : List LinkState) (len : ℕ) → length links ≡ len → take len (links ++ drop (length links) items) ≡ links
written_back links items len e = take_at links (drop (length links) items) len e

-- a connection keeps all but its room, where the list of them does
kept_at : (old new : List LinkState) (c : ℕ) → map without_room new ≡ map without_room old → without_room (get_or new c new_link) ≡ without_room (get_or old c new_link)
kept_at old new c kept =
    sym (get_or-map without_room new c new_link) ∙ ap (λ (ls : List LinkState). get_or ls c (without_room new_link)) kept ∙ get_or-map without_room old c new_link

-- connections that keep all but their room wait or are begun as they were
pub AreLinks-kept : (old new : List LinkState) (begun most : ℕ) → AreLinks old begun most → map without_room new ≡ map without_room old → AreLinks new begun most
AreLinks-kept old new begun most are kept =
    let same_len : length new ≡ length old = sym (length-map new without_room) ∙ ap length kept ∙ length-map old without_room in
    record {
      within = omega (arith, same_len, are.within);
      few = omega (arith, same_len, are.few);
      fresh = λ c past. let e = kept_at old new c kept in (ap (λ (l : LinkState). l.closed) e ∙ (are.fresh c past).0, ap (λ (l : LinkState). l.written) e ∙ (are.fresh c past).1);
    }

-- connections that have their room up to place i, and are as they were from there on
pub record ReservedBelow (n i : ℕ) (links before : List LinkState) : Type 0 where
  pub done : take i links ≡ map (link_reserved n) (take i before)
  pub rest : drop i links ≡ drop i before
  pub kept : map without_room links ≡ map without_room before

pub ReservedBelow-more : (n i : ℕ) (links before : List LinkState) (l m : LinkState) → i < length links → length links ≡ length before → ReservedBelow n i links before → m ≡ link_reserved n (get_or links i l) → without_room m ≡ without_room (get_or links i l) → ReservedBelow n (i + 1) (set links i m) before
ReservedBelow-more n i links before l m within same_len so_far reserved kept =
    let within_before : i < length before = omega arith in
    let now = drop_more links i l within in
    let behind = drop_more before i l within_before in
    let head : get_or links i l ≡ get_or before i l = let rest = so_far.rest in cc in
    let tail : drop (i + 1) links ≡ drop (i + 1) before = let rest = so_far.rest in cc in
    let below : i < i + 1 = omega arith in
    let front = take_more_set links i m within in
    let front_before = take_more before i l within_before in
    let mapped = map-append (link_reserved n) (take i before) (get_or before i l ∷ []) in
    let done_before = so_far.done in
    record {
      done = cc;
      rest = drop-set-lt (i + 1) links i m below ∙ tail;
      kept = map-set_same without_room links i m l kept ∙ so_far.kept;
    }

-- the same of connections that are written back whole
pub AreLinks-back : (links items : List LinkState) (len begun most : ℕ) → length links ≡ len → AreLinks items begun most → map without_room links ≡ map without_room items → AreLinks (take len (links ++ drop (length links) items)) begun most
AreLinks-back links items len begun most same_len are kept =
    rw (written_back links items len same_len) (AreLinks-kept items links begun most are kept)

-- a wire whose connections keep all but their room
pub SameButRoom-links : (w : WireState) (links taken : List LinkState) → map without_room links ≡ map without_room w.links → map without_room taken ≡ map without_room w.taken → SameButRoom w (record w { links = links; taken = taken })
SameButRoom-links w links taken kept kept_too =
    ap (λ (ls : List LinkState). wire_with w ls (map without_room taken)) kept
    ∙ ap (λ (ls : List LinkState). wire_with w (map without_room w.links) ls) kept_too
  where
    wire_with : WireState → List LinkState → List LinkState → WireState
    wire_with w links taken = record w { links = links; taken = taken }

-- a connection of a wire that keeps all but room keeps all but its room
state_kept : (old new : WireState) → SameButRoom old new → (c : ℕ) → without_room (state_at new c) ≡ without_room (state_at old c)
state_kept old new same c =
    elim (is_of_dial c) as (λ b. without_room (if b then get_or new.taken (c - 1024) new_link else get_or new.links c new_link) ≡ without_room (if b then get_or old.taken (c - 1024) new_link else get_or old.links c new_link)) [
      | true ↦ kept_at old.taken new.taken (c - 1024) (ap (λ (w : WireState). w.taken) same)
      | false ↦ kept_at old.links new.links c (ap (λ (w : WireState). w.links) same)
    ]

-- a connection that keeps all but its room is open as it was
pub IsOpen-kept : (old new : WireState) → SameButRoom old new → (c : ℕ) → IsOpen (door_of old) (link_at old) c → IsOpen (door_of new) (link_at new) c
IsOpen-kept old new same c open_before =
    let accepted = ap (λ (w : WireState). w.accepted) same in
    let dialled = ap (λ (w : WireState). w.dialled) same in
    record {
      accepted = λ below. rw accepted (open_before.accepted below);
      dialled = λ from. rw dialled (open_before.dialled from);
      open_still = ap (λ (l : LinkState). l.closed) (state_kept old new same c) ∙ open_before.open_still;
    }
