-- What an engine and its libraries go on with, behind records that were read back.
use Rattle.std.specs.Prelude.{◌≡◌, ℕ, ◌+◌, ◌<◌, ◌≤◌, ◌==◌, nat_lt, min, if◌then◌else◌, List, [], ◌∷◌, ◌++◌, length, map, Option, None, Some}
use Rattle.std.specs.List.{AllByRecursion}
use Rattle.connection_core.specs.Outgoing.{no_outgoing}
use Rattle.engine_config.specs.Config.{dial_of, names_of}
use Rattle.engine_config.specs.declared.config.Config.{Config}
use Rattle.engine_config.specs.declared.config.DialTo.{DialTo}
use Rattle.engine_start.specs.Starts.{HaveRings, configured_book, heart_of, new_shape}
use Rattle.engine_start.specs.declared.sessions.TheConstants.{FIRST_NUMBER}
use Rattle.gate_io.specs.declared.clocks.TheConstants.{LAST_MOMENT}
use Rattle.lease_core.specs.Lines.{lines_of}
use Rattle.lease_core.specs.Runs.{IsRun, owes_hold}
use Rattle.lease_core.specs.State.{State, owner_of, state_of}
use Rattle.lease_core.specs.Steps.{hold_entry, timeout_entry}
use Rattle.lease_core.specs.declared.entry.Entry.{Entry}
use Rattle.lease_core.specs.declared.entry.Entry.TheVariants.{Leave}
use Rattle.lease_core.specs.declared.lease.Line.{Line}
use Rattle.lease_core.specs.declared.record.Record.{Record}
use Rattle.lease_desk.specs.Desk.{owner_at}
use Rattle.lease_words.specs.Views.{EngineView, engine_at}
use Rattle.lease_words.specs.declared.view.Shape.{Shape}
use Rattle.library_desk.specs.declared.shared.Shared.{Shared}
use Rattle.seq_gaps.specs.Line.{fresh_line}
use Rattle.seq_gaps.specs.declared.offered.TheConstants.{MAX_NUMBER}
use Rattle.session_book.specs.Book.{Book}
use Rattle.session_book.specs.Kept.{Kept}
use Rattle.session_book.specs.Records.{HasNotedAll, Pending, after_note}
use Rattle.session_book.specs.Rereading.{after_reading}
use Rattle.session_book.specs.Reviving.{CanBeSent, ReadBack, nothing_read}
use Rattle.session_core.specs.State.{new_state}
use Rattle.session_core.specs.declared.names.Names.{Names}
use Rattle.session_desk.specs.Steps.{AreNoted, pending_at}
use Rattle.switchboard.specs.Board.{Board, book_at}
use Rattle.switchboard.specs.Ready.{IsFirst, entries_of}
use Rattle.switchboard.specs.Sound.{bound_of}

-- the records of one session, in order, and the entries of records
abbrev pub records_of : ℕ → List Record → List Record
records_of s [] = []
records_of s (r ∷ records) = if r.s == s then r ∷ records_of s records else records_of s records

abbrev pub entries_in : List Record → List Entry
entries_in records = map (λ (r : Record). r.entry) records

-- The record is of one of so many sessions, its expected number is from 1 to one more than MAX_NUMBER, and a body that was numbered can be written.
pub record CanBeRevived (sessions : ℕ) (r : Record) : Type 0 where
  pub session : r.s < sessions
  pub expected_from : 1 ≤ r.expected
  pub expected_to : r.expected ≤ MAX_NUMBER + 1
  pub body : CanBeSent r.entry r.body

-- Each record is of a session of the configuration, and each session's entries are a run, in which it can be granted as often as is configured.
pub record AreRecordsOf (config : Config) (records : List Record) : Type 0 where
  pub each : AllByRecursion (CanBeRevived (length config.names)) records
  pub runs : (s : ℕ) → s < length config.names → IsRun config.leases (entries_in (records_of s records))

-- what was read back of a session, and the number that it expected behind its last record
abbrev pub read_back : ℕ → List Record → ReadBack
read_back leases records = after_reading records (nothing_read leases)

abbrev pub last_expected : ℕ → List Record → ℕ
last_expected before [] = before
last_expected before (r ∷ records) = last_expected r.expected records

abbrev pub expected_behind : List Record → ℕ
expected_behind records = last_expected FIRST_NUMBER records

-- the hold that a release with an heir owes
abbrev pub owed_hold : ℕ → State → List Entry
owed_hold until s = if owes_hold s.latest then hold_entry s until ∷ [] else []

-- an active lease is taken back
abbrev pub lease_end : State → List Entry
lease_end s = if nat_lt 0 (owner_of s) then timeout_entry s ∷ [] else []

-- an open bind is left
abbrev pub bind_end : Option ℕ → List Entry
bind_end None = []
bind_end (Some c) = Leave c ∷ []

-- the entries that close what a run left open, in this order
abbrev pub closing_entries : ℕ → State → List Entry
closing_entries until s = owed_hold until s ++ (lease_end s ++ bind_end s.bound)

-- A session goes on behind what was read back of it: its journal is closed, its logs are as they were read, and its machine, which is off, expects this number.
abbrev pub restarted_book : Names → Option DialTo → ℕ → ReadBack → ℕ → Book
restarted_book names dial until read expected = record {
  machine = new_state names.us names.them (heart_of dial) (record fresh_line { expected = expected });
  leases = read.leases;
  entries = read.entries ++ closing_entries until (state_of read.entries);
  inbound = read.inbound;
  outbound = read.outbound;
}

-- a session of the configuration goes on behind its own records
abbrev pub book_behind : Config → ℕ → List Record → ℕ → Book
book_behind config until records s =
    let own = records_of s records in
    restarted_book (names_of config s) (dial_of config s) until (read_back config.leases own) (expected_behind own)

-- the moment until which the heirs are waited for whose holds were missing
abbrev pub hold_until : Config → ℕ → ℕ
hold_until config moment = min (moment + config.hold) LAST_MOMENT

-- One session for each pair of names, each behind its own records. The engine has all of them, and there is no connection.
pub record RestartsSessions (config : Config) (until : ℕ) (records : List Record) (board : Board) : Type 0 where
  pub count : length board.sessions ≡ length config.names
  pub books : (s : ℕ) → s < length config.names → book_at board s ≡ book_behind config until records s
  -- one without records is as `start` makes it
  pub new : (s : ℕ) → s < length config.names → records_of s records ≡ [] → book_at board s ≡ configured_book config.leases (names_of config s) (dial_of config s)
  pub owned : (s : ℕ) → s < length config.names → owner_at board s ≡ 0
  pub unbound : (s : ℕ) → s < length config.names → bound_of (book_at board s) ≡ None
  pub first : IsFirst (entries_of board) board
  pub nowhere : board.nowhere.outgoing ≡ no_outgoing

-- the lines of each session's leases
abbrev pub lines_of_sessions : List Kept → List (List Line)
lines_of_sessions sessions = map (λ (k : Kept). lines_of k.book.entries) sessions

-- for what the lease table is made: behind the leases of each session's journal
abbrev pub resumed_shape : Config → Board → Shape
resumed_shape config board = record (new_shape config) { before = lines_of_sessions board.sessions }

-- The table is for the sessions and libraries of the configuration, behind the leases of the journals, and each library has two rings.
pub record ResumesTable (config : Config) (board : Board) (shared : Shared) : Type 0 where
  pub shape : shared.leases.shape ≡ resumed_shape config board
  pub rings : HaveRings config shared

-- the seat knows a session's leases by its journal, and the next grant gives the number behind the last of them
pub record ResumesLeases (board : Board) (seat : EngineView) (s : ℕ) : Type 0 where
  pub lines : (engine_at seat s).lines ≡ lines_of (book_at board s).entries
  pub base : (engine_at seat s).base ≡ length (lines_of (book_at board s).entries)

-- so many entries were handed out, and those that closed them are noted with the number that the session expects
abbrev pub closing_noted : ℕ → Book → Pending
closing_noted recovered book = after_note book (record { handed = recovered; expected = [] })

-- What was recovered of each session isn't handed out again, and all that closed it is noted.
pub record NotesClosing (config : Config) (records : List Record) (board : Board) (unkept : List Pending) : Type 0 where
  pub noted : AreNoted unkept board
  pub each : (s : ℕ) → s < length config.names → pending_at unkept s ≡ closing_noted (length (records_of s records)) (book_at board s)
  pub all : (s : ℕ) → s < length config.names → HasNotedAll (pending_at unkept s) (book_at board s)
