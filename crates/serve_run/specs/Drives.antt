-- The engine's side of a run: its turns, one after another.
use Rattle.std.specs.Prelude.{◌≡◌, ℕ, ◌≤◌, Bool, true, false, List, [], ◌∷◌, ◌++◌}
use Rattle.engine_loop.specs.Engines.{IsAtWork, IsOnline}
use Rattle.engine_loop.specs.Pausing.{MakesAndWaits}
use Rattle.engine_loop.specs.Turns.{AtWire}
use Rattle.engine_loop.specs.declared.records.Turn.{Turn}
use Rattle.lease_desk.specs.Desk.{InTurn}
use Rattle.library_desk.specs.declared.shared.Shared.{Shared}
use Rattle.serve_run.specs.Ended.{IsOver}

-- The engine at its wire, the turns that it made, and what it read of the clock in them.
pub record Drive : Type 0 where
  pub at : AtWire
  pub turns : List Turn
  pub readings : List ℕ

abbrev pub drive_of : AtWire → List Turn → List ℕ → Drive
drive_of at turns readings = record { at = at; turns = turns; readings = readings }

-- one turn more, of an engine that is at work over its wire
pub record DrivesOnce (old new : Drive) : Type 0 where
  pub shared : Shared
  pub work : IsAtWork shared old.at.engine
  pub online : IsOnline old.at.engine old.at.door old.at.links
  pub turn : Turn
  pub reading : ℕ
  pub makes : MakesAndWaits reading turn old.at new.at
  pub turns_are : new.turns ≡ old.turns ++ turn ∷ []
  pub readings_are : new.readings ≡ old.readings ++ reading ∷ []

-- One turn more of a run that isn't over.
pub record DrivesOn (connections libraries : ℕ) (old new : Drive) : Type 0 where
  pub going : IsOver connections libraries old.at.engine old.turns → ⊥
  pub drives : DrivesOnce old new

-- so many turns, one after another
abbrev pub DrivesFor : ℕ → ℕ → ℕ → Drive → Drive → Type 0
DrivesFor connections libraries count old new = InTurn (λ i. DrivesOn connections libraries) count old new

-- The engine makes turns until the run is over, or as many as there may be, of which it then made all.
pub record DrivesToEnd (connections libraries most : ℕ) (over : Bool) (Read : List ℕ → Type 0) (old new : AtWire) : Type 0 where
  pub count : ℕ
  pub few : count ≤ most
  pub last : Drive
  pub at : last.at ≡ new
  pub drives : DrivesFor connections libraries count (drive_of old [] []) last
  pub reads : Read last.readings
  pub ended : over ≡ true → IsOver connections libraries new.engine last.turns
  pub spent : over ≡ false → (count ≡ most) × (IsOver connections libraries new.engine last.turns → ⊥)
