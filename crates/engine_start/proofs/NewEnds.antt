-- How the libraries' seats begin, and the ends of their rings.
use Rattle.std.proofs.Common.{◌≡◌, ℕ, zero, suc, ◌+◌, ◌<◌, List, [], ◌∷◌, ◌++◌, length, get_or, map, Some, refl, sym, ap, ◌∙◌, arith}
use Rattle.std.proofs.lemmas.List.{length-map, map-id}
use Rattle.std.proofs.lemmas.Option.{get_or_from_slice_get, slice_get-get_or, slice_get_within}
use Rattle.std.specs.Prelude.{slice_get}
use Rattle.engine_start.proofs.Places.{at_place, both_at, both_pushed, map_of_maps, pushed}
use Rattle.engine_start.specs.Sides.{Adds, AreNewRings, AreSides}
use Rattle.engine_start.specs.Starts.{AreEngineEnds, AreLibraryEnds, HaveSlots}
use Rattle.engine_start.specs.declared.ends.LibraryEnds.{LibraryEnds}
use Rattle.engine_start.specs.declared.rings.Rings.{Rings}
use Rattle.engine_start.specs.declared.rings.TheConstants.{RING_SLOTS}
use Rattle.engine_start.specs.declared.sides.Sides.{Sides}
use Rattle.lease_core.specs.declared.messages.Command.{Command}
use Rattle.lease_core.specs.declared.messages.Notice.{Notice}
use Rattle.lease_words.specs.Tokens.{new_library_seat, new_library_seats}
use Rattle.lease_words.specs.Views.{LibraryView, TableRef}
use Rattle.library_desk.specs.declared.ends.EngineEnds.{EngineEnds}
use Rattle.library_desk.specs.declared.shared.Shared.{Shared}
use Rattle.ring_links.specs.Ends.{HeadView, RingId, TailView, new_head, new_tail}

-- one library more
pub sides_more : (seats : List LibraryView) (seat : LibraryView) (rings : Rings) (old new : Sides) → AreNewRings rings → Adds seat rings old new → AreSides seats old → AreSides (seats ++ seat ∷ []) new
sides_more seats seat rings old new made adds are = record {
  command_slots = both_pushed (λ (r : RingId). r.capacity) (λ (s : LibraryView). RING_SLOTS) _ _ _ _ _ _ adds.commands refl made.commands are.command_slots;
  notice_slots = both_pushed (λ (r : RingId). r.capacity) (λ (s : LibraryView). RING_SLOTS) _ _ _ _ _ _ adds.notices refl made.notices are.notice_slots;
  heads = both_pushed (λ (e : EngineEnds). e.head) new_head _ _ _ _ _ _ adds.engine adds.commands (ap (λ (e : EngineEnds). e.head) made.engine) are.heads;
  tails = both_pushed (λ (e : EngineEnds). e.tail) new_tail _ _ _ _ _ _ adds.engine adds.notices (ap (λ (e : EngineEnds). e.tail) made.engine) are.tails;
  library_tails = both_pushed (λ (e : LibraryEnds). e.tail) new_tail _ _ _ _ _ _ adds.libraries adds.commands made.tail are.library_tails;
  library_heads = both_pushed (λ (e : LibraryEnds). e.head) new_head _ _ _ _ _ _ adds.libraries adds.notices made.head are.library_heads;
  seats_are = pushed (λ (e : LibraryEnds). e.seat) _ _ _ _ _ adds.libraries refl are.seats_are;
  numbers = both_pushed (λ (e : LibraryEnds). e.number) (λ (s : LibraryView). s.knows.number) _ _ _ _ _ _ adds.libraries refl refl are.numbers;
}

seat_count : (t : TableRef) (number n : ℕ) → length (new_library_seats t number n) ≡ n
seat_count t number zero = refl
seat_count t number (suc n) = ap suc (seat_count t (suc number) n)

seat_at : (t : TableRef) (number n j : ℕ) (d : LibraryView) → j < n → get_or (new_library_seats t number n) j d ≡ new_library_seat t (number + j)
seat_at t number zero j d small = absurd (omega arith)
seat_at t number (suc n) zero d small = ap (new_library_seat t) (omega arith)
seat_at t number (suc n) (suc j) d small = seat_at t (suc number) n j d (omega arith) ∙ ap (new_library_seat t) (omega arith)

-- the seat at a place is that of the number behind it
seat_of : (t : TableRef) (n j : ℕ) (seat : LibraryView) → slice_get (new_library_seats t 1 n) j ≡ Some seat → seat ≡ new_library_seat t (j + 1)
seat_of t n j seat found =
    let within = slice_get_within (new_library_seats t 1 n) j seat found in
    sym (get_or_from_slice_get (new_library_seats t 1 n) j seat seat found) ∙ seat_at t 1 n j seat (let count = seat_count t 1 n in omega arith) ∙ ap (new_library_seat t) (omega arith)

module _ (t : TableRef) (n : ℕ) (sides : Sides) (are : AreSides (new_library_seats t 1 n) sides) where
  pub library_count : length sides.libraries.items ≡ n
  library_count = sym (length-map sides.libraries.items (λ (e : LibraryEnds). e.seat)) ∙ ap (λ (seats : List LibraryView). length seats) are.seats_are ∙ seat_count t 1 n

  pub command_count : length sides.commands.items ≡ n
  command_count = sym (length-map sides.commands.items (λ (r : RingId). r.capacity)) ∙ ap (λ (ns : List ℕ). length ns) are.command_slots ∙ length-map (new_library_seats t 1 n) (λ (seat : LibraryView). RING_SLOTS) ∙ seat_count t 1 n

  pub notice_count : length sides.notices.items ≡ n
  notice_count = sym (length-map sides.notices.items (λ (r : RingId). r.capacity)) ∙ ap (λ (ns : List ℕ). length ns) are.notice_slots ∙ length-map (new_library_seats t 1 n) (λ (seat : LibraryView). RING_SLOTS) ∙ seat_count t 1 n

  pub engine_count : length sides.engine.items ≡ n
  engine_count =
      sym (length-map sides.engine.items (λ (e : EngineEnds). e.head)) ∙ ap (λ (hs : List (HeadView Command)). length hs) are.heads ∙ length-map sides.commands.items new_head ∙ command_count

  pub engine_commands : map (λ (e : EngineEnds). e.head.ring) sides.engine.items ≡ sides.commands.items
  engine_commands = map_of_maps (λ (e : EngineEnds). e.head) new_head (λ (h : HeadView Command). h.ring) (λ (r : RingId). r) (λ r. refl) sides.engine.items sides.commands.items are.heads ∙ map-id sides.commands.items

  pub engine_notices : map (λ (e : EngineEnds). e.tail.ring) sides.engine.items ≡ sides.notices.items
  engine_notices = map_of_maps (λ (e : EngineEnds). e.tail) new_tail (λ (x : TailView Notice). x.ring) (λ (r : RingId). r) (λ r. refl) sides.engine.items sides.notices.items are.tails ∙ map-id sides.notices.items

  pub command_slots : HaveSlots sides.commands.items
  command_slots j d small = (both_at (λ (r : RingId). r.capacity) (λ (seat : LibraryView). RING_SLOTS) _ _ j _ are.command_slots (slice_get-get_or sides.commands.items j d small)).2

  pub notice_slots : HaveSlots sides.notices.items
  notice_slots j d small = (both_at (λ (r : RingId). r.capacity) (λ (seat : LibraryView). RING_SLOTS) _ _ j _ are.notice_slots (slice_get-get_or sides.notices.items j d small)).2

  module _ (shared : Shared) (commands : shared.commands.items ≡ sides.commands.items) (notices : shared.notices.items ≡ sides.notices.items) where
    pub engine_ends : (j : ℕ) (e : EngineEnds) → slice_get sides.engine.items j ≡ Some e → AreEngineEnds shared j e
    engine_ends j e found =
        let pops = both_at (λ (x : EngineEnds). x.head) new_head _ sides.commands.items j e are.heads found in
        let pushes = both_at (λ (x : EngineEnds). x.tail) new_tail _ sides.notices.items j e are.tails found in
        record {
          commands = ap (λ rs. slice_get rs j) commands ∙ pops.1 ∙ ap (λ (h : HeadView Command). Some h.ring) (sym pops.2);
          notices = ap (λ rs. slice_get rs j) notices ∙ pushes.1 ∙ ap (λ (x : TailView Notice). Some x.ring) (sym pushes.2);
          head = pops.2 ∙ ap (λ (h : HeadView Command). new_head h.ring) (sym pops.2);
          tail = pushes.2 ∙ ap (λ (x : TailView Notice). new_tail x.ring) (sym pushes.2);
        }

    pub library_ends : shared.leases ≡ t → (j : ℕ) (e : LibraryEnds) → slice_get sides.libraries.items j ≡ Some e → AreLibraryEnds shared j e
    library_ends table j e found =
        let pushes = both_at (λ (x : LibraryEnds). x.tail) new_tail _ sides.commands.items j e are.library_tails found in
        let pops = both_at (λ (x : LibraryEnds). x.head) new_head _ sides.notices.items j e are.library_heads found in
        let seat : e.seat ≡ new_library_seat t (j + 1) = seat_of t n j e.seat (at_place (λ (x : LibraryEnds). x.seat) _ _ j e are.seats_are found) in
        let numbered = both_at (λ (x : LibraryEnds). x.number) (λ (x : LibraryView). x.knows.number) _ _ j e are.numbers found in
        record {
          number = numbered.2 ∙ ap (λ (x : LibraryView). x.knows.number) (seat_of t n j numbered.0 numbered.1);
          seat = seat ∙ ap (λ z. new_library_seat z (j + 1)) (sym table);
          commands = ap (λ rs. slice_get rs j) commands ∙ pushes.1 ∙ ap (λ (x : TailView Command). Some x.ring) (sym pushes.2);
          notices = ap (λ rs. slice_get rs j) notices ∙ pops.1 ∙ ap (λ (h : HeadView Notice). Some h.ring) (sym pops.2);
          tail = pushes.2 ∙ ap (λ (x : TailView Command). new_tail x.ring) (sym pushes.2);
          head = pops.2 ∙ ap (λ (h : HeadView Notice). new_head h.ring) (sym pops.2);
        }
