-- A journal that is still to take records.
use Rattle.std.specs.Prelude.{ℕ, List, ◌++◌}
use Rattle.std.specs.List.{AllByRecursion}
use Rattle.lease_core.specs.declared.record.Record.{Record}
use Rattle.durable_journal.specs.Disk.{bytes_of}
use Rattle.durable_journal.specs.Files.{IsLawful, AreRuns, Stands}
use Rattle.durable_journal.specs.Journal.{JournalState}
use Rattle.durable_journal.specs.Memory.{MemoryState}

-- records of the table, which go on from none
pub record AreLawful (sessions leases : ℕ) (records : List Record) : Type 0 where
  pub lawful : AllByRecursion IsLawful records
  pub runs : AreRuns sessions leases records

-- the disk stands for records, and those that wait and those that are to come go on from them
pub record IsReady (journal : JournalState MemoryState) (rest : List Record) : Type 0 where
  pub kept : List Record
  pub stands : Stands journal.sessions journal.leases (bytes_of journal.disk.history) kept
  pub runs : AreRuns journal.sessions journal.leases (kept ++ (journal.batch ++ rest))
  pub lawful : AllByRecursion IsLawful rest
