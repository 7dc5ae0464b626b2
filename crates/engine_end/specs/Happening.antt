-- What the last gathering does, as happenings of a board.
use Rattle.std.specs.Prelude.{◌≡◌, ℕ, List}
use Rattle.std.specs.List.{All}
use Rattle.switchboard.specs.Board.{Board}
use Rattle.switchboard.specs.Happenings.{Happening, Reaches, reserves, shows}

-- Room is made for a session, or a word of its is shown at this moment, at whose limit a new hold lapses. Nothing else happens: nothing comes, lapses, is handled or is written.
abbrev pub IsOfGathering : ℕ → ℕ → Happening → Type 0
IsOfGathering at until (shows s w bodies moment limit) = (moment ≡ at) × (limit ≡ until)
IsOfGathering at until (reserves s) = Unit {0}
IsOfGathering at until _ = ⊥

-- a list of such happenings leads from one board to another
pub record RunsGathering (at until : ℕ) (old new : Board) : Type 0 where
  pub happenings : List Happening
  pub all : All (IsOfGathering at until) happenings
  pub reaches : Reaches happenings old new
