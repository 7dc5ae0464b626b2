-- The records of the entries that weren't handed out.
use Rattle.std.specs.Prelude.{◌≡◌, ℕ, zero, suc, ◌<◌, ◌≤◌, List, [], ◌++◌, length}
use Rattle.lease_core.specs.declared.record.Record.{Record}
use Rattle.session_book.specs.Records.{HasNotedAll, Pending, after_records, new_records}
use Rattle.session_desk.specs.Steps.{pending_at}
use Rattle.switchboard.specs.Board.{Board, book_at}

-- all entries of each session were noted
pub record AreAllNoted (unkept : List Pending) (board : Board) : Type 0 where
  pub count : length unkept ≡ length board.sessions
  pub each : (s : ℕ) → s < length board.sessions → HasNotedAll (pending_at unkept s) (book_at board s)

-- those of the first so many sessions, one session after another
abbrev pub fresh_records : Board → List Pending → ℕ → List Record
fresh_records board unkept zero = []
fresh_records board unkept (suc s) = fresh_records board unkept s ++ new_records s (book_at board s) (pending_at unkept s)

-- all entries of the first so many sessions were handed out, and those of the others as before
pub record AreHandedOut (board : Board) (count : ℕ) (old new : List Pending) : Type 0 where
  pub length_stays : length new ≡ length old
  pub first : (s : ℕ) → s < count → pending_at new s ≡ after_records (book_at board s)
  pub others : (s : ℕ) → count ≤ s → pending_at new s ≡ pending_at old s
