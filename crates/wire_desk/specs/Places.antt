-- Which connections aren't closed.
use Rattle.std.specs.Prelude.{ℕ, ◌<◌, List, [], ◌∷◌, ◌++◌, Option, None, Some}
use Rattle.std.specs.List.{AllPairs}
use Rattle.gate_io.specs.declared.dials.Dialled.{Dialled}
use Rattle.gate_io.specs.declared.dials.Dialled.TheVariants as dial
use Rattle.gate_io.specs.declared.wires.Accepted.{Accepted}
use Rattle.gate_io.specs.declared.wires.Accepted.TheVariants as accept
use Rattle.wire_desk.specs.declared.desk.WireDesk.{WireDesk}

-- the places of those that were accepted, and behind them of those that were dialled
abbrev pub open_places : WireDesk → List ℕ
open_places w = w.accepted.items ++ w.dialled.items

-- a connection that was accepted is listed last, by its place
abbrev pub listed_behind : Accepted → ℕ → List ℕ → List ℕ
listed_behind (accept.New number) place places = places ++ place ∷ []
listed_behind accept.Nothing place places = places
listed_behind accept.Failed place places = places

-- and so is one that was dialled
abbrev pub dialled_behind : Option Dialled → ℕ → List ℕ → List ℕ
dialled_behind None place places = places
dialled_behind (Some dial.Failed) place places = places
dialled_behind (Some (dial.New number)) place places = places ++ place ∷ []

-- each of the places is above those before it
abbrev pub AreRising : List ℕ → Type 0
AreRising places = AllPairs (λ j k. j < k) places

-- the accepted connections are listed in the order in which they came, and so are the dialled ones
pub record AreInOrder (w : WireDesk) : Type 0 where
  pub accepted : AreRising w.accepted.items
  pub dialled : AreRising w.dialled.items
