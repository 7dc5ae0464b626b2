-- What a file of a journal stands for.
use Rattle.std.specs.Prelude.{◌≡◌, ◌≢◌, ◌⊎◌, ℕ, ◌<◌, ◌≤◌, ◌^◌, ◌==◌, if◌then◌else◌, List, [], ◌∷◌, ◌++◌, length}
use Rattle.std.specs.Int.{to_be_bytes, w32}
use Rattle.std.specs.List.{flat_map, AllByRecursion}
use Rattle.lease_core.specs.Runs.{IsRun}
use Rattle.lease_core.specs.declared.entry.Entry.{Entry}
use Rattle.lease_core.specs.declared.record.Record.{Record}
use Rattle.durable_journal.specs.Numbers.{HasTypes}
use Rattle.durable_journal.specs.RecordText.{HeadHasTypes, head_of, records_text}
use Rattle.durable_journal.specs.Records.{IsRecord}

-- a record of the table, with its numbers in their types
pub record IsLawful (r : Record) : Type 0 where
  pub record_is : IsRecord r
  pub entry_types : HasTypes r.entry
  pub head_types : HeadHasTypes (head_of r)

-- the entries of one session, in order
abbrev pub entries_of : ℕ → List Record → List Entry
entries_of s [] = []
entries_of s (r ∷ records) = if r.s == s then r.entry ∷ entries_of s records else entries_of s records

-- the records are of these sessions, and each one's entries are a run, in which it can be granted so many times
pub record AreRuns (sessions leases : ℕ) (records : List Record) : Type 0 where
  pub in_sessions : AllByRecursion (λ r. r.s < sessions) records
  pub runs : (s : ℕ) → IsRun leases (entries_of s records)

-- so many bytes, as four bytes tell it, and the records
abbrev pub batch_text : List Record → List ℕ
batch_text batch = to_be_bytes w32 (length (records_text batch)) ++ records_text batch

-- gates that are open, with their batches behind them
abbrev pub file_text : List (List Record) → List ℕ
file_text batches = flat_map (λ batch. 1 ∷ batch_text batch) batches

pub record IsBatch (batch : List Record) : Type 0 where
  pub lawful : AllByRecursion IsLawful batch
  pub short : length (records_text batch) < 2 ^ 32

-- the records of all batches
abbrev pub all_of : List (List Record) → List Record
all_of batches = flat_map (λ batch. batch) batches

pub record AreBatches (sessions leases : ℕ) (batches : List (List Record)) : Type 0 where
  pub each : AllByRecursion IsBatch batches
  pub runs : AreRuns sessions leases (all_of batches)

-- the batches behind open gates, and a gate that isn't open, with anything behind it
pub record IsFile (sessions leases : ℕ) (file : List ℕ) (batches : List (List Record)) : Type 0 where
  pub gate : ℕ
  pub behind : List ℕ
  pub text : file ≡ file_text batches ++ gate ∷ behind
  pub closed : gate ≢ 1
  pub lawful : AreBatches sessions leases batches

-- the file stands for the records of all its batches
pub record HoldsBatches (sessions leases : ℕ) (file : List ℕ) (records : List Record) : Type 0 where
  pub batches : List (List Record)
  pub is_file : IsFile sessions leases file batches
  pub records_are : records ≡ all_of batches

-- The file stands for these records. One of at most one byte has none.
abbrev pub Stands : ℕ → ℕ → List ℕ → List Record → Type 0
Stands sessions leases file records = ((length file ≤ 1) × (records ≡ [])) ⊎ HoldsBatches sessions leases file records

-- At this place, the first such, the file has an open gate, behind which no whole batch goes on from those before it.
pub record IsDamaged (sessions leases : ℕ) (file : List ℕ) (place : ℕ) : Type 0 where
  pub batches : List (List Record)
  pub more : List ℕ
  pub text : file ≡ file_text batches ++ 1 ∷ more
  pub long : 1 < length file
  pub place_is : place ≡ length (file_text batches)
  pub lawful : AreBatches sessions leases batches
  pub no_batch : (batch : List Record) (gate : ℕ) (behind : List ℕ) → more ≡ batch_text batch ++ gate ∷ behind → AreBatches sessions leases (batches ++ batch ∷ []) → ⊥
