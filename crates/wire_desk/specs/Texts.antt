-- What is written on connections, as the journals told it on an earlier board.
use Rattle.std.specs.Prelude.{◌≡◌, ℕ, ◌<◌, List, length, Some}
use Rattle.lease_core.specs.declared.entry.Entry.{Entry}
use Rattle.session_book.specs.Texts.{IsTextOf}
use Rattle.switchboard.specs.Board.{Board, book_at, connection_at, names_at}

-- what is written on the connection at place k of the new board begins the outbound text that the journal of session s told of it on the old one
abbrev pub HasTextFrom : (ℕ → List Entry) → Board → Board → ℕ → ℕ → Type 0
HasTextFrom before old new s k = IsTextOf (names_at old s) (before s) (connection_at old k).number (book_at old s) (connection_at new k).out.outgoing

-- and so on each connection that named a session
abbrev pub HaveTextsFrom : (ℕ → List Entry) → Board → Board → Type 0
HaveTextsFrom before old new = (s k : ℕ) → k < length old.connections → (connection_at old k).session ≡ Some s → HasTextFrom before old new s k
