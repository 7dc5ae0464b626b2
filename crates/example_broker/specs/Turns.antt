-- What the engine's thread does: turn for turn.
use Rattle.std.specs.Prelude.{◌≡◌, ℕ, ◌⊎◌}
use Rattle.engine_loop.specs.Pausing.{MakesAndWaits}
use Rattle.engine_loop.specs.Stops.{StopsTurn}
use Rattle.engine_loop.specs.Turns.{AtWire}
use Rattle.engine_loop.specs.declared.records.Turn.{Turn}
use Rattle.example_broker.specs.Trades.{Repeats}

-- turns, one behind another, and nothing else
abbrev pub Drives : AtWire → AtWire → Type 0
Drives = Repeats (λ old new. (reading : ℕ) × (turn : Turn) × MakesAndWaits reading turn old new)

-- Turns, and then one for which memory is wanting, if it isn't wanting between two of them.
pub record DrivesShort (old new : AtWire) : Type 0 where
  pub driven : AtWire
  pub drives : Drives old driven
  pub stops : (new ≡ driven) ⊎ ((reading : ℕ) × StopsTurn reading driven new.engine)
