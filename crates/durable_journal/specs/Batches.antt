-- What a batch leaves on a disk as it is written.
use Rattle.std.specs.Prelude.{◌≡◌, ◌⊎◌, ℕ, ◌+◌, ◌<◌, List, [], ◌∷◌, length, Option, Some, None}
use Rattle.durable_journal.specs.Disk.{Write, Sync, History, bytes_of, after_step, with_piece, IsTorn, IsSynced, CrashesLeave}

-- a gate stands at the place, and all is on the disk
pub record IsReadyFor (gate : ℕ) (told : History) : Type 0 where
  pub inside : gate < length (bytes_of told)
  pub synced : IsSynced told

-- with the batch behind the gate
abbrev pub with_batch : ℕ → List ℕ → List ℕ → List ℕ
with_batch gate text bytes = with_piece bytes (gate + 1) text

-- and with the gate open
abbrev pub with_open_gate : ℕ → List ℕ → List ℕ → List ℕ
with_open_gate gate text bytes = with_piece (with_batch gate text bytes) gate (1 ∷ [])

-- The batch is written behind its gate, which is opened once all of the batch is on the disk: two writes and two syncs.
abbrev pub after_batch : ℕ → List ℕ → History → History
after_batch gate text told =
    let written = after_step Sync (after_step (Write (gate + 1) (length text) text) told) in
    after_step Sync (after_step (Write gate 1 (1 ∷ [])) written)

-- A crash leaves the batch torn and all before it as it was, or the gate torn and all else as it is then.
abbrev pub IsBatchImage : ℕ → List ℕ → List ℕ → List ℕ → Type 0
IsBatchImage gate text bytes image = IsTorn (gate + 1) (length text) bytes image ⊎ IsTorn gate 1 (with_batch gate text bytes) image

abbrev pub BatchLeaves : ℕ → List ℕ → Option History → Option History → Type 0
BatchLeaves gate text None new = new ≡ None
BatchLeaves gate text (Some old) None = ⊥
BatchLeaves gate text (Some old) (Some new) = CrashesLeave (IsBatchImage gate text (bytes_of old)) old new

-- all of it is on the disk
pub record HasBatchOnDisk (gate : ℕ) (text : List ℕ) (old new : History) : Type 0 where
  pub bytes : bytes_of new ≡ with_open_gate gate text (bytes_of old)
  pub synced : IsSynced new

abbrev pub BatchStands : ℕ → List ℕ → Option History → Option History → Type 0
BatchStands gate text None new = new ≡ None
BatchStands gate text (Some old) None = ⊥
BatchStands gate text (Some old) (Some new) = HasBatchOnDisk gate text old new
