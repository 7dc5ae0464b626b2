-- What was taken of the libraries' lanes at the lease table, and what the sessions' logs have of it.
use Rattle.std.specs.Prelude.{◌≡◌, ℕ, ◌<◌, ◌≤◌, List, length, map}
use Rattle.lease_core.specs.Lines.{lines_of}
use Rattle.lease_core.specs.declared.entry.Entry.{Entry}
use Rattle.lease_desk.specs.Desk.{bodies_of}
use Rattle.lease_desk.specs.declared.desk.LeaseDesk.{LeaseDesk}
use Rattle.lease_words.specs.Views.{engine_at, last_library, taken_of}
use Rattle.lease_words.specs.declared.item.Item.{Item}
use Rattle.lease_words.specs.declared.view.EngineSession.{EngineSession}
use Rattle.message_log.specs.declared.entry.OutEntry.{OutEntry}
use Rattle.session_book.specs.Book.{Book}
use Rattle.session_book.specs.Sends.{AreSendsOf}
use Rattle.switchboard.specs.Board.{book_at}

-- the bodies that entries of the outbound log have
abbrev pub logged_bodies : List OutEntry → List (List ℕ)
logged_bodies sends = map (λ entry. entry.body) sends

-- The bodies that a session's outbound log has for this library's sends, behind the entries before, are those of these items: of each one, once and in order.
pub record AreLogged (library : ℕ) (before : List Entry) (book : Book) (items : List Item) : Type 0 where
  pub sends : List OutEntry
  pub sends_are : AreSendsOf library before sends book
  pub bodies : logged_bodies sends ≡ bodies_of items

-- What the engine's seat has of a session. It saw the leases that the journal tells, of which the last is a library's; those before its table are the leases of
-- the entries before; and for each library of the table there is a lane, of which the log has the items that were taken.
pub record LanesAreTaken (libraries : ℕ) (before : List Entry) (book : Book) (es : EngineSession) : Type 0 where
  pub lines : lines_of book.entries ≡ es.lines
  pub based : es.base ≡ length (lines_of before)
  pub granted : 0 < length es.lines → 1 ≤ last_library es
  pub lanes : length es.taken ≡ libraries
  pub taken : (library : ℕ) → 1 ≤ library → library ≤ libraries → AreLogged library before book (taken_of es library)

-- The table and the engine's seat have each session, and so it is of each.
pub record AreTaken (before : ℕ → List Entry) (desk : LeaseDesk) : Type 0 where
  pub seated : length desk.board.sessions ≡ desk.seat.table.shape.sessions
  pub known : length desk.seat.knows.sessions ≡ length desk.board.sessions
  pub each : (s : ℕ) → s < length desk.board.sessions → LanesAreTaken desk.seat.table.shape.libraries (before s) (book_at desk.board s) (engine_at desk.seat s)
