-- A journal that keeps what happened to the sessions, and what may be written then.
use Rattle.std.specs.Prelude.{◌≡◌, ℕ, ◌<◌, List, length, Some}
use Rattle.durable_journal.specs.Files.{entries_of}
use Rattle.lease_core.specs.declared.entry.Entry.{Entry}
use Rattle.lease_core.specs.declared.record.Record.{Record}
use Rattle.switchboard.specs.Board.{Board, book_at, connection_at}
use Rattle.wire_desk.specs.Texts.{HasTextFrom}

-- the records have just the entries of each session, in order
abbrev pub HaveEntriesOf : Board → List Record → Type 0
HaveEntriesOf board records = (s : ℕ) → s < length board.sessions → entries_of s records ≡ (book_at board s).entries

-- The records have all entries of session s, and what is written on the connection at place k of the new board begins the outbound text that they told: each entry of which the
-- connection took a byte is among them.
pub record HasKeptText (before : ℕ → List Entry) (kept : List Record) (old new : Board) (s k : ℕ) : Type 0 where
  pub entries : (book_at old s).entries ≡ entries_of s kept
  pub text : HasTextFrom before old new s k

-- and so on each connection that names a session
abbrev pub HaveKeptTexts : (ℕ → List Entry) → List Record → Board → Board → Type 0
HaveKeptTexts before kept old new = (s k : ℕ) → k < length old.connections → (connection_at old k).session ≡ Some s → HasKeptText before kept old new s k
