-- How an engine stands to a wire in memory.
use Rattle.std.specs.Prelude.{◌≡◌, ℕ, List, Some, slice_get}
use Rattle.engine_loop.specs.Engines.{IsEngine}
use Rattle.engine_loop.specs.declared.engine.Engine.{Engine}
use Rattle.engine_start.specs.Starts.{AreLibraryEnds}
use Rattle.engine_start.specs.declared.ends.LibraryEnds.{LibraryEnds}
use Rattle.gate_io.specs.MemWire.{WireState, door_of, link_at}
use Rattle.library_api.specs.Ends.{EndsView}
use Rattle.library_desk.specs.declared.shared.Shared.{Shared}

-- the engine's connections are on this wire
abbrev pub IsOver : Shared → Engine → WireState → Type 0
IsOver shared e w = IsEngine shared e (door_of w) (link_at w)

-- a library's seat belongs to the table, and its ends to the rings at this place
pub record AreEnds (shared : Shared) (place : ℕ) (ends : EndsView) : Type 0 where
  pub table : ends.seat.table ≡ shared.leases
  pub commands : slice_get shared.commands.items place ≡ Some ends.tail.ring
  pub notices : slice_get shared.notices.items place ≡ Some ends.head.ring

-- the ends at each place are those that the library there begins with
abbrev pub AreAllEnds : Shared → List LibraryEnds → Type 0
AreAllEnds shared all = (place : ℕ) (ends : LibraryEnds) → slice_get all place ≡ Some ends → AreLibraryEnds shared place ends
