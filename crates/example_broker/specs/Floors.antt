-- What the threads share of the sessions.
use Rattle.std.specs.Prelude.{ℕ, slice_index_or}
use Rattle.example_broker.specs.declared.floor.Floor.{Floor}
use Rattle.example_broker.specs.declared.floor.Place.{Place}

-- the place of a session, or that of every session that isn't configured
abbrev pub place_at : Floor → ℕ → Place
place_at floor s = slice_index_or floor.places.items s floor.nowhere
