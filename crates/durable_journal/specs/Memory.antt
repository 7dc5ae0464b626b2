-- A disk in memory.
use Rattle.std.specs.Prelude.{◌≡◌, ℕ, ◌+◌, ◌-◌, ◌==◌, ◌||◌, nat_lt, Bool, if◌then◌else◌, List, [], ◌∷◌, length, take, drop}
use Rattle.std.specs.List.{list_any}
use Rattle.gate_io.specs.Counts.{one_more}
use Rattle.durable_journal.specs.declared.memory.DiskStep.{DiskStep}
use Rattle.durable_journal.specs.declared.memory.DiskStep.TheVariants.{Wrote, Synced}
use Rattle.durable_journal.specs.Disk.{Step, Write, Sync, History, bytes_after}

-- What was done with it, for how many bytes and calls more it has room, which calls fail, and how many were made and failed.
pub record MemoryState : Type 0 where
  pub history : History
  pub room : ℕ
  pub spare : ℕ
  pub fails : List ℕ
  pub calls : ℕ
  pub faults : ℕ

-- how many bytes of a piece a recorded step wrote
abbrev pub written_by : DiskStep → ℕ
written_by (Wrote at size len) = len
written_by Synced = 0

-- the step, where the bytes that it wrote come first
abbrev pub step_of : DiskStep → List ℕ → Step
step_of (Wrote at size len) written = Write at size (take len written)
step_of Synced written = Sync

-- the recorded steps behind those before, from the oldest on, with all bytes that they wrote, one after the other
abbrev pub steps_of : List Step → List DiskStep → List ℕ → List Step
steps_of before [] written = before
steps_of before (row ∷ rows) written = steps_of (step_of row written ∷ before) rows (drop (written_by row) written)

abbrev pub written_in : List DiskStep → ℕ
written_in [] = 0
written_in (row ∷ rows) = written_by row + written_in rows

-- the next call is one of those that fail, or there is no room for it
abbrev pub fails_now : MemoryState → Bool
fails_now s = list_any (λ call. call == s.calls) s.fails || (s.spare == 0)

-- a call more was made
abbrev pub after_call : MemoryState → MemoryState
after_call s = record s { calls = one_more s.calls; spare = s.spare - 1 }

abbrev pub after_fault : MemoryState → MemoryState
after_fault s = record (after_call s) { faults = one_more s.faults }

abbrev pub with_step : Step → MemoryState → MemoryState
with_step step s = record s { history = record { first = s.history.first; steps = step ∷ s.history.steps } }

-- or there is no room for so many bytes
abbrev pub fails_to_write : MemoryState → ℕ → Bool
fails_to_write s size = fails_now s || nat_lt s.room size

-- A write for which there is no call left isn't recorded. One that is listed as failing is, with no bytes. One that isn't
-- listed, and for which there are too few bytes left, isn't recorded.
abbrev pub after_write : MemoryState → ℕ → List ℕ → MemoryState
after_write s at piece =
    if s.spare == 0 then after_fault s
    else (if list_any (λ call. call == s.calls) s.fails then with_step (Write at (length piece) []) (after_fault s)
    else (if nat_lt s.room (length piece) then after_fault s
    else with_step (Write at (length piece) piece) (record (after_call s) { room = s.room - length piece })))

-- the bytes are those that the recorded steps leave of the first ones, and as many written bytes are kept as the steps wrote
pub record IsMemory (first bytes written : List ℕ) (rows : List DiskStep) : Type 0 where
  pub bytes_are : bytes ≡ bytes_after first (steps_of [] rows written)
  pub written_are : length written ≡ written_in rows
