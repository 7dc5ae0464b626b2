-- A journal as contracts see it.
use Rattle.std.specs.Prelude.{◌≡◌, ◌≢◌, ◌⊎◌, ℕ, ◌+◌, ◌<◌, ◌≤◌, List, [], ◌∷◌, ◌++◌, length, drop, Option, Some, None}
use Rattle.std.specs.List.{AllByRecursion}
use Rattle.lease_core.specs.declared.record.Record.{Record}
use Rattle.durable_journal.specs.declared.limits.TheConstants.{LONGEST_JOURNAL}
use Rattle.durable_journal.specs.Disk.{History, bytes_of, IsImage, IsSynced, CrashesLeave}
use Rattle.durable_journal.specs.RecordText.{records_text}
use Rattle.durable_journal.specs.Files.{IsLawful, IsBatch, AreRuns, Stands, batch_text, file_text, all_of}

-- Its disk, the numbers of sessions and of leases that it is over, the place of the gate behind its kept records, and the waiting batch.
pub record JournalState (D : Type 0) : Type 0 where
  pub disk : D
  pub sessions : ℕ
  pub leases : ℕ
  pub gate : ℕ
  pub batch : List Record

-- the history is told, and this holds of it
abbrev pub TellsThat : Option History → (History → Type 0) → Type 0
TellsThat None P = ⊥
TellsThat (Some told) P = P told

-- the disk tells its bytes, and they stand for these records
abbrev pub Keeps : {D : Type 0} → (D → Option History) → JournalState D → List Record → Type 0
Keeps history journal kept = TellsThat (history journal.disk) (λ told. Stands journal.sessions journal.leases (bytes_of told) kept)

-- where the file ends with this batch behind the gate, and the next gate behind it
abbrev pub file_end : ℕ → List Record → ℕ
file_end gate batch = gate + 1 + length (batch_text batch) + 1

-- an image stands for the records before the batch, or for these and the whole batch
abbrev pub IsBeforeOrBehind : ℕ → ℕ → List Record → List Record → List ℕ → Type 0
IsBeforeOrBehind sessions leases kept batch image = Stands sessions leases image kept ⊎ Stands sessions leases image (kept ++ batch)

-- an image that the disk could be left with before, or one that stands for what the bytes stood for
abbrev pub IsLeftOrSame : ℕ → ℕ → History → List ℕ → Type 0
IsLeftOrSame sessions leases told image = IsImage told image ⊎ ((records : List Record) → Stands sessions leases (bytes_of told) records → Stands sessions leases image records)

-- All is on the disk: whole batches behind open gates, and at the place a gate that isn't open. The waiting batch goes on from them.
pub record IsAtRest (sessions leases gate : ℕ) (batch : List Record) (told : History) : Type 0 where
  pub batches : List (List Record)
  pub first : ℕ
  pub behind : List ℕ
  pub text : bytes_of told ≡ file_text batches ++ first ∷ behind
  pub closed : first ≢ 1
  pub place_is : gate ≡ length (file_text batches)
  pub each : AllByRecursion IsBatch batches
  pub runs : AreRuns sessions leases (all_of batches ++ batch)
  pub synced : IsSynced told

-- four bytes, and the waiting records as they will be written
pub record IsDraft (batch : List Record) (text : List ℕ) : Type 0 where
  pub records : drop 4 text ≡ records_text batch
  pub four : 4 ≤ length text
  pub short : length text ≤ LONGEST_JOURNAL
  pub lawful : AllByRecursion IsLawful batch

-- there is room in the file for the waiting batch, if there is one
abbrev pub IsWithin : ℕ → List Record → List ℕ → Type 0
IsWithin gate batch text = (batch ≡ []) ⊎ (gate + length text + 1 ≤ LONGEST_JOURNAL)

-- where recovery found the gate that isn't open, with these records before it
pub record IsFound (sessions leases gate : ℕ) (records : List Record) (told : History) : Type 0 where
  pub rest : IsAtRest sessions leases gate [] told
  pub records_are : records ≡ all_of rest.batches

-- from the one history on to the other recovery leaves only what was there before, or the same records
abbrev pub LeavesSame : ℕ → ℕ → Option History → Option History → Type 0
LeavesSame sessions leases None new = new ≡ None
LeavesSame sessions leases (Some old) None = ⊥
LeavesSame sessions leases (Some old) (Some new) = CrashesLeave (IsLeftOrSame sessions leases old) old new

-- all is on the disk and as it was, but a file of at most one byte is a closed gate now
pub record Settles (old new : History) : Type 0 where
  pub synced : IsSynced new
  pub long : 1 < length (bytes_of old) → bytes_of new ≡ bytes_of old
  pub short : length (bytes_of old) ≤ 1 → bytes_of new ≡ 0 ∷ []

abbrev pub SettlesIn : Option History → Option History → Type 0
SettlesIn None new = new ≡ None
SettlesIn (Some old) None = ⊥
SettlesIn (Some old) (Some new) = Settles old new
