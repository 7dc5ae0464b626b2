-- What is kept of the libraries' beats.
use Rattle.std.specs.Prelude.{ℕ, ◌-◌, ◌==◌, if◌then◌else◌, List, slice_index_or}
use Rattle.library_clock.specs.declared.kept.Kept.{Kept}

-- how long a beat may stand, and what is kept of library 1, 2 and so on
pub record Watched : Type 0 where
  pub timeout : ℕ
  pub kept : List Kept

-- what is kept of a library
abbrev pub kept_of : Watched → ℕ → Kept
kept_of watched library = slice_index_or watched.kept (library - 1) (record { beat = 0; since = 0 })

-- a beat that moved is kept with the moment
abbrev pub kept_after : Kept → ℕ → ℕ → Kept
kept_after kept beat moment = if beat == kept.beat then kept else record { beat = beat; since = moment }
