-- How the rings of the libraries begin, and both sides' ends of them.
use Rattle.std.specs.Prelude.{◌≡◌, List, [], ◌∷◌, ◌++◌, map}
use Rattle.engine_start.specs.declared.ends.LibraryEnds.{LibraryEnds}
use Rattle.engine_start.specs.declared.rings.Rings.{Rings}
use Rattle.engine_start.specs.declared.rings.TheConstants.{RING_SLOTS}
use Rattle.engine_start.specs.declared.sides.Sides.{Sides}
use Rattle.lease_words.specs.Views.{LibraryView}
use Rattle.library_desk.specs.declared.ends.EngineEnds.{EngineEnds}
use Rattle.ring_links.specs.Ends.{RingId, new_head, new_tail}

-- the two rings of a library, at whose ends nothing was done yet
pub record AreNewRings (rings : Rings) : Type 0 where
  pub commands : rings.commands.capacity ≡ RING_SLOTS
  pub notices : rings.notices.capacity ≡ RING_SLOTS
  pub engine : rings.engine ≡ record { head = new_head rings.commands; tail = new_tail rings.notices }
  pub tail : rings.tail ≡ new_tail rings.commands
  pub head : rings.head ≡ new_head rings.notices

-- the rings of one library more, whose seat this is
pub record Adds (seat : LibraryView) (rings : Rings) (old new : Sides) : Type 0 where
  pub commands : new.commands.items ≡ old.commands.items ++ rings.commands ∷ []
  pub notices : new.notices.items ≡ old.notices.items ++ rings.notices ∷ []
  pub engine : new.engine.items ≡ old.engine.items ++ rings.engine ∷ []
  pub libraries : new.libraries.items ≡ old.libraries.items ++ record { number = seat.knows.number; seat = seat; tail = rings.tail; head = rings.head } ∷ []

-- Rings with room for so many, in the order of the seats, whose ends on both sides are new.
pub record AreSides (seats : List LibraryView) (sides : Sides) : Type 0 where
  pub command_slots : map (λ (r : RingId). r.capacity) sides.commands.items ≡ map (λ (seat : LibraryView). RING_SLOTS) seats
  pub notice_slots : map (λ (r : RingId). r.capacity) sides.notices.items ≡ map (λ (seat : LibraryView). RING_SLOTS) seats
  pub heads : map (λ (e : EngineEnds). e.head) sides.engine.items ≡ map new_head sides.commands.items
  pub tails : map (λ (e : EngineEnds). e.tail) sides.engine.items ≡ map new_tail sides.notices.items
  pub library_tails : map (λ (e : LibraryEnds). e.tail) sides.libraries.items ≡ map new_tail sides.commands.items
  pub library_heads : map (λ (e : LibraryEnds). e.head) sides.libraries.items ≡ map new_head sides.notices.items
  pub seats_are : map (λ (e : LibraryEnds). e.seat) sides.libraries.items ≡ seats
  pub numbers : map (λ (e : LibraryEnds). e.number) sides.libraries.items ≡ map (λ (seat : LibraryView). seat.knows.number) seats
