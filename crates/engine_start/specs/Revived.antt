-- What was read back of each session, one record after another, and the sessions that go on behind it.
use Rattle.std.specs.Prelude.{◌≡◌, ℕ, ◌+◌, ◌≤◌, ◌<◌, List, length, slice_index_or}
use Rattle.connection_core.specs.Outgoing.{no_outgoing}
use Rattle.engine_config.specs.Config.{dial_of, names_of}
use Rattle.engine_config.specs.declared.config.Config.{Config}
use Rattle.engine_start.specs.Restarts.{closing_noted, expected_behind, read_back, records_of, restarted_book}
use Rattle.engine_start.specs.declared.reviving.Revived.{Revived}
use Rattle.engine_start.specs.declared.sessions.TheConstants.{FIRST_NUMBER}
use Rattle.lease_core.specs.State.{owner_of, state_of}
use Rattle.lease_core.specs.declared.record.Record.{Record}
use Rattle.seq_gaps.specs.declared.offered.TheConstants.{MAX_NUMBER}
use Rattle.session_book.specs.Book.{Book}
use Rattle.session_book.specs.Records.{HasNotedAll, Pending}
use Rattle.session_book.specs.Reviving.{after_read, nothing_read}
use Rattle.session_desk.specs.Steps.{pending_at}
use Rattle.switchboard.specs.Board.{Board, book_at}
use Rattle.switchboard.specs.Ready.{IsFirst, entries_of}

-- nothing was read of a session yet
abbrev pub new_revived : ℕ → Revived
new_revived leases = record { revival = nothing_read leases; expected = FIRST_NUMBER }

-- a record of the session was read
abbrev pub after_record : Record → Revived → Revived
after_record r revived = record { revival = after_read r.entry r.at r.body revived.revival; expected = r.expected }

-- what was read of a session by its own records
abbrev pub revived_by : ℕ → List Record → Revived
revived_by leases records = record { revival = read_back leases records; expected = expected_behind records }

abbrev pub revived_at : List Revived → ℕ → Revived
revived_at revived s = slice_index_or revived s (new_revived 0)

-- so many sessions, each as its own records tell
pub record AreRevived (leases count : ℕ) (records : List Record) (revived : List Revived) : Type 0 where
  pub count_is : length revived ≡ count
  pub each : (s : ℕ) → s < count → revived_at revived s ≡ revived_by leases (records_of s records)

-- so many sessions, each with an expected number from 1 to one more than MAX_NUMBER
pub record CanGoOn (count : ℕ) (revived : List Revived) : Type 0 where
  pub count_is : length revived ≡ count
  pub from_one : (s : ℕ) → s < count → 1 ≤ (revived_at revived s).expected
  pub to_last : (s : ℕ) → s < count → (revived_at revived s).expected ≤ MAX_NUMBER + 1

-- The session goes on behind what was read back of it. The engine has it, it is bound to no connection, and the entries that close its journal are noted.
pub record GoesOnBehind (config : Config) (until s : ℕ) (revived : Revived) (book : Book) (unkept : Pending) : Type 0 where
  pub book_is : book ≡ restarted_book (names_of config s) (dial_of config s) until revived.revival revived.expected
  pub owned : owner_of (state_of book.entries) ≡ 0
  pub noted : unkept ≡ closing_noted (length revived.revival.entries) book
  pub all : HasNotedAll unkept book

-- the first sessions of a configuration go on
pub record GoOnBehind (config : Config) (until : ℕ) (revived : List Revived) (count : ℕ) (board : Board) (unkept : List Pending) : Type 0 where
  pub count_is : length board.sessions ≡ count
  pub unkept_count : length unkept ≡ count
  pub each : (s : ℕ) → s < count → GoesOnBehind config until s (revived_at revived s) (book_at board s) (pending_at unkept s)
  pub first : IsFirst (entries_of board) board
  pub nowhere : board.nowhere.outgoing ≡ no_outgoing
