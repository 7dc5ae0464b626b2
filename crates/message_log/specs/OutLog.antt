-- The parts of an outbound log.
use Rattle.std.specs.Prelude.{◌≡◌, ℕ, ◌^◌, ◌+◌, ◌<◌, List, length, Option}
use Rattle.message_log.specs.declared.entry.OutEntry.{OutEntry}
use Rattle.message_log.specs.declared.stretches.Stretch.{Stretch}
use Rattle.message_log.specs.Series.{series_from, AreStarts, last_start}
use Rattle.message_log.specs.Stretches.{IsIndex}

-- The entries stand in a list, in which each series but the first begins at its place. The stretches are those of the log.
pub record IsOutLog (entries : List OutEntry) (starts : List ℕ) (start : ℕ) (closed : List Stretch) (growing : Option ℕ) : Type 0 where
  pub in_list : AreStarts 0 starts (length entries)
  pub present : start ≡ last_start 0 starts
  pub few : length starts + 1 < 2 ^ 32
  pub index : IsIndex (series_from 0 starts entries) closed growing
