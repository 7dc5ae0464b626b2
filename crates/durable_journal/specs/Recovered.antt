-- What was read so far of a journal.
use Rattle.std.specs.Prelude.{◌≡◌, ◌≢◌, ℕ, ◌+◌, ◌<◌, ◌^◌, List, [], ◌∷◌, ◌++◌, length, Some, slice_get}
use Rattle.std.specs.Int.{to_be_bytes, w32}
use Rattle.std.specs.List.{AllByRecursion}
use Rattle.lease_core.specs.Kept.{Kept}
use Rattle.lease_core.specs.State.{state_of}
use Rattle.lease_core.specs.Runs.{IsNext}
use Rattle.lease_core.specs.declared.entry.Entry.{Entry}
use Rattle.lease_core.specs.declared.record.Record.{Record}
use Rattle.durable_journal.specs.RecordText.{record_text, records_text}
use Rattle.durable_journal.specs.Files.{IsLawful, IsBatch, AreRuns, entries_of, batch_text, file_text, all_of}

-- the records so far, and over how many sessions and leases
pub record ReadSoFar : Type 0 where
  pub records : List Record
  pub sessions : ℕ
  pub leases : ℕ

-- beside the records each session's entries are kept
pub record AreKept (leases : ℕ) (recoveries : List Kept) (records : List Record) : Type 0 where
  pub runs : AreRuns (length recoveries) leases records
  pub entries : (s : ℕ) (kept : Kept) → slice_get recoveries s ≡ Some kept → kept.entries ≡ entries_of s records
  pub limits : (s : ℕ) (kept : Kept) → slice_get recoveries s ≡ Some kept → kept.leases ≡ leases

-- the entries and the limits of all sessions are as they were
abbrev pub HaveSameEntries : List Kept → List Kept → Type 0
HaveSameEntries old new =
    (s : ℕ) (kept : Kept) → slice_get new s ≡ Some kept → (was : Kept) × (slice_get old s ≡ Some was) × (kept.entries ≡ was.entries) × (kept.leases ≡ was.leases)

-- the entry follows in this session, and stands behind its entries then; all others are as they were
pub record TakesEntry (old : List Kept) (s : ℕ) (entry : Entry) (new : List Kept) : Type 0 where
  pub was : Kept
  pub of_session : slice_get old s ≡ Some was
  pub next : IsNext was.leases (state_of was.entries) entry
  pub now : (kept : Kept) → slice_get new s ≡ Some kept → (kept.entries ≡ was.entries ++ entry ∷ []) × (kept.leases ≡ was.leases)
  pub others : (other : ℕ) → other ≢ s → (kept : Kept) → slice_get new other ≡ Some kept → (before : Kept) × (slice_get old other ≡ Some before) × (kept.entries ≡ before.entries) × (kept.leases ≡ before.leases)

-- there is no such session, or the entry doesn't follow there
abbrev pub RefusesEntry : List Kept → ℕ → Entry → Type 0
RefusesEntry old s entry = (was : Kept) → slice_get old s ≡ Some was → IsNext was.leases (state_of was.entries) entry → ⊥

-- a record that stands at the front of the bytes
pub record IsFront (bytes : List ℕ) (r : Record) (rest : List ℕ) : Type 0 where
  pub text : bytes ≡ record_text r ++ rest
  pub lawful : IsLawful r

abbrev pub HasNoFront : List ℕ → Type 0
HasNoFront bytes = (r : Record) (rest : List ℕ) → IsFront bytes r rest → ⊥

-- the bytes are records, which are read behind those before
pub record GoesOn (bytes : List ℕ) (old new : ReadSoFar) : Type 0 where
  pub batch : List Record
  pub text : bytes ≡ records_text batch
  pub lawful : AllByRecursion IsLawful batch
  pub records : new.records ≡ old.records ++ batch

-- no lawful records that go on from those before are these bytes
abbrev pub GoesNowhere : List ℕ → ReadSoFar → Type 0
GoesNowhere bytes old = (batch : List Record) → AllByRecursion IsLawful batch → bytes ≡ records_text batch → AreRuns old.sessions old.leases (old.records ++ batch) → ⊥

-- Behind an open gate so many bytes are told and stand there, and one more, the next gate: the text.
pub record IsWhole (more text : List ℕ) : Type 0 where
  pub size : ℕ
  pub behind : List ℕ
  pub told : size < 2 ^ 32
  pub length_is : length text ≡ size + 1
  pub bytes : more ≡ to_be_bytes w32 size ++ (text ++ behind)

-- there aren't as many bytes as are told, and a gate behind them
abbrev pub IsCutShort : List ℕ → Type 0
IsCutShort more = (records : List ℕ) (gate : ℕ) (behind : List ℕ) → length records < 2 ^ 32 → more ≡ to_be_bytes w32 (length records) ++ (records ++ gate ∷ behind) → ⊥

-- behind an open gate stands this batch, with a gate behind it
pub record HasBatch (more : List ℕ) (gate : ℕ) (batch : List Record) : Type 0 where
  pub behind : List ℕ
  pub text : more ≡ batch_text batch ++ gate ∷ behind
  pub is_batch : IsBatch batch

-- the batch behind the open gate was read, which has so many bytes, and the gate behind it
pub record TakesBatch (more : List ℕ) (gate size : ℕ) (old new : ReadSoFar) : Type 0 where
  pub batch : List Record
  pub found : HasBatch more gate batch
  pub size_is : size ≡ length (records_text batch)
  pub records : new.records ≡ old.records ++ batch

-- no batch behind the open gate goes on from the records before
abbrev pub TakesNone : List ℕ → ReadSoFar → Type 0
TakesNone more old = (batch : List Record) (gate : ℕ) → HasBatch more gate batch → AreRuns old.sessions old.leases (old.records ++ batch) → ⊥

-- The file was read up to this place, where this gate stands: the batches before it are these records.
pub record IsReadTo (file : List ℕ) (place gate : ℕ) (records : List Record) : Type 0 where
  pub batches : List (List Record)
  pub behind : List ℕ
  pub text : file ≡ file_text batches ++ gate ∷ behind
  pub place_is : place ≡ length (file_text batches)
  pub each : AllByRecursion IsBatch batches
  pub records_are : records ≡ all_of batches

-- and this gate isn't open
pub record IsReadToEnd (sessions leases : ℕ) (file : List ℕ) (place : ℕ) (records : List Record) : Type 0 where
  pub gate : ℕ
  pub closed : gate ≢ 1
  pub read : IsReadTo file place gate records
  pub runs : AreRuns sessions leases records
