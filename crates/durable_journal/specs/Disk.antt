-- What was done with a disk, and what a crash leaves of its bytes.
use Rattle.std.specs.Prelude.{◌≡◌, ◌⊎◌, ℕ, ◌+◌, ◌≤◌, max, List, [], ◌∷◌, ◌++◌, length, take, drop, Option, Some, None}

-- A write of so many bytes at a place, with the piece of them that is read there behind it: all of them, where it succeeded. Or a sync
-- that succeeded.
pub data Step : Type 0 where
  Write : (at size : ℕ) (piece : List ℕ) → Step
  Sync : Step

-- the bytes at first, and what was done since, the latest first
pub record History : Type 0 where
  pub first : List ℕ
  pub steps : List Step

-- a piece at a place, over what was there
abbrev pub with_piece : List ℕ → ℕ → List ℕ → List ℕ
with_piece bytes at piece = take at bytes ++ (piece ++ drop (at + length piece) bytes)

-- the bytes that are read behind these steps
abbrev pub bytes_after : List ℕ → List Step → List ℕ
bytes_after first [] = first
bytes_after first (Write at size piece ∷ before) = with_piece (bytes_after first before) at piece
bytes_after first (Sync ∷ before) = bytes_after first before

abbrev pub bytes_of : History → List ℕ
bytes_of history = bytes_after history.first history.steps

abbrev pub after_step : Step → History → History
after_step step history = record { first = history.first; steps = step ∷ history.steps }

-- A write of so many bytes at a place may have left this in a crash: any bytes in its range and past the old end, and outside the same.
pub record IsTorn (at size : ℕ) (old new : List ℕ) : Type 0 where
  pub before : take at new ≡ take at old
  pub behind : drop (at + size) new ≡ drop (at + size) old
  pub no_shorter : length old ≤ length new
  pub no_longer : length new ≤ max (length old) (at + size)

-- A crash behind these steps may leave this image: what was read at the last sync, torn by each write since.
abbrev pub IsImageAfter : List ℕ → List Step → List ℕ → Type 0
IsImageAfter first [] image = image ≡ first
IsImageAfter first (Write at size piece ∷ before) image = (old : List ℕ) × IsImageAfter first before old × IsTorn at size old image
IsImageAfter first (Sync ∷ before) image = image ≡ bytes_after first before

abbrev pub IsImage : History → List ℕ → Type 0
IsImage history image = IsImageAfter history.first history.steps image

-- each image at this moment is one of these
abbrev pub AllImages : (List ℕ → Type 0) → List ℕ → List Step → Type 0
AllImages P first steps = (image : List ℕ) → IsImageAfter first steps image → P image

-- the same at each moment from behind the older steps to behind these, a moment within a step being the one before or behind it
abbrev pub AllMoments : (List ℕ → Type 0) → List ℕ → List Step → List Step → Type 0
AllMoments P first older [] = AllImages P first older
AllMoments P first older (step ∷ steps) = AllImages P first (step ∷ (steps ++ older)) × AllMoments P first older steps

-- from the one history on to the other, whenever a crash comes, it leaves one of these images
pub record CrashesLeave (P : List ℕ → Type 0) (old new : History) : Type 0 where
  pub steps : List Step
  pub first : new.first ≡ old.first
  pub goes_on : new.steps ≡ steps ++ old.steps
  pub moments : AllMoments P old.first old.steps steps

-- the same of disks that tell their history, both or none
abbrev pub CrashesLeaveIn : (List ℕ → Type 0) → Option History → Option History → Type 0
CrashesLeaveIn P (Some old) (Some new) = CrashesLeave P old new
CrashesLeaveIn P (Some old) None = ⊥
CrashesLeaveIn P None (Some new) = ⊥
CrashesLeaveIn P None None = Unit {0}

-- all that is read is on the disk: a crash leaves just that
abbrev pub IsSynced : History → Type 0
IsSynced history = (image : List ℕ) → IsImage history image → image ≡ bytes_of history

-- a write that failed: it did nothing, or left some piece of what it was to write or of anything else
abbrev pub FailsToWrite : ℕ → ℕ → Option History → Option History → Type 0
FailsToWrite at size None new = new ≡ None
FailsToWrite at size (Some old) new = (new ≡ Some old) ⊎ ((piece : List ℕ) × (length piece ≤ size) × (new ≡ Some (after_step (Write at size piece) old)))
