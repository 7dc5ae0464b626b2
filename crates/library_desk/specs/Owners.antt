-- Which library has each session, as a list by the sessions' numbers.
use Rattle.std.specs.Prelude.{◌≡◌, ◌≢◌, ℕ, ◌<◌, ◌≤◌, Bool, false, true, List, length, slice_index_or}
use Rattle.lease_desk.specs.Desk.{owner_at}
use Rattle.switchboard.specs.Board.{Board}

-- Of each session of the board the list has who owns it. What stands behind these tells nothing.
abbrev pub AreOwners : Board → List ℕ → Type 0
AreOwners board owners = (s : ℕ) → s < length board.sessions → slice_index_or owners s 0 ≡ owner_at board s

-- Each number that the list has is marked.
abbrev pub AreMarked : List ℕ → List Bool → Type 0
AreMarked owners marks = (s : ℕ) → s < length owners → slice_index_or marks (slice_index_or owners s 0) false ≡ true

-- A library has none of the sessions from one on and up to another.
abbrev pub HasNone : ℕ → ℕ → ℕ → List ℕ → Type 0
HasNone library from to owners = (s : ℕ) → from ≤ s → s < to → slice_index_or owners s 0 ≢ library
