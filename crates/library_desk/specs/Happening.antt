-- What the engine does for a library, as happenings of a board.
use Rattle.std.specs.Prelude.{◌≡◌, ℕ, List}
use Rattle.std.specs.List.{All}
use Rattle.switchboard.specs.Board.{Board}
use Rattle.switchboard.specs.Happenings.{Happening, Reaches, requests, reserves, times_out}

-- What is done for a library at a moment: nothing comes on a connection, is handled or is written, and no moment is another one.
abbrev pub IsOfLibraries : ℕ → Happening → Type 0
IsOfLibraries at (times_out s w bodies moment until) = moment ≡ at
IsOfLibraries at (requests s library nr from) = Unit {0}
IsOfLibraries at (reserves s) = Unit {0}
IsOfLibraries at _ = ⊥

-- a list of such happenings leads from one board to another
pub record RunsFor (at : ℕ) (old new : Board) : Type 0 where
  pub happenings : List Happening
  pub all : All (IsOfLibraries at) happenings
  pub reaches : Reaches happenings old new
