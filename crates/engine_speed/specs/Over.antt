-- An engine over a wire in memory.
use Rattle.std.specs.Prelude.{◌≡◌}
use Rattle.engine_loop.specs.Engines.{IsEngine}
use Rattle.engine_loop.specs.declared.engine.Engine.{Engine}
use Rattle.gate_io.specs.MemWire.{WireState, door_of, link_at}
use Rattle.library_desk.specs.declared.shared.Shared.{Shared}

-- the engine's connections are on this wire
abbrev pub IsOver : Shared → Engine → WireState → Type 0
IsOver shared e w = IsEngine shared e (door_of w) (link_at w)

-- nothing was accepted or dialled
pub record IsUntouched (w : WireState) : Type 0 where
  pub accepted : w.accepted ≡ 0
  pub dialled : w.dialled ≡ 0
