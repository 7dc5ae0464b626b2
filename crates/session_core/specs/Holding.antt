-- How many messages a number line holds.
use Rattle.std.specs.Prelude.{ℕ, ◌≤◌, Bool, true, false}
use Rattle.std.specs.FinMap.{len}
use Rattle.seq_gaps.specs.Line.{Line}
use Rattle.seq_gaps.specs.declared.offered.Place.{Place}
use Rattle.seq_gaps.specs.declared.offered.Place.TheVariants.{Now, Held, Known, NoRoom}
use Rattle.seq_gaps.specs.declared.offered.TheConstants.{HELD_LIMIT}

-- the line holds no more than so many, of those that it can hold
pub record HoldsAtMost {T : Type 0} (line : Line T) (most : ℕ) : Type 0 where
  pub held : len line.held ≤ most
  pub limit : most ≤ HELD_LIMIT

abbrev pub is_held : {T : Type 0} → Place T → Bool
is_held (Now item) = false
is_held Held = true
is_held (Known item) = false
is_held (NoRoom item) = false
