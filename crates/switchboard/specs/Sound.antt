-- What holds of sessions and connections between two calls.
use Rattle.std.specs.Prelude.{◌≡◌, ℕ, ◌<◌, length, Option, None, Some}
use Rattle.connection_core.specs.Connection.{ConnectionState}
use Rattle.lease_core.specs.State.{state_of}
use Rattle.session_core.specs.State.{IsState}
use Rattle.session_book.specs.Book.{Book}
use Rattle.session_book.specs.Kept.{IsBook}
use Rattle.switchboard.specs.Board.{Board, book_at, connection_at, place_at}

-- the connection to which a session is bound by its journal
abbrev pub bound_of : Book → Option ℕ
bound_of book = (state_of book.entries).bound

-- what holds of every session
pub record IsLawful (book : Book) : Type 0 where
  pub is_book : IsBook book
  pub is_state : IsState book.machine

-- The session is bound to the connection at this place, which stands and names the session.
pub record IsPlugged (board : Board) (s k : ℕ) : Type 0 where
  pub within : k < length board.connections
  pub names : (connection_at board k).session ≡ Some s
  pub stands : (connection_at board k).cause ≡ None
  pub bound : bound_of (book_at board s) ≡ Some (connection_at board k).number

-- what holds of a session by its place
abbrev pub IsPlaced : Board → ℕ → Option ℕ → Type 0
IsPlaced board s None = bound_of (book_at board s) ≡ None
IsPlaced board s (Some k) = IsPlugged board s k

-- Each session is bound to a connection just where it has a place, and then that stands and names it; and a connection that stands and names a session is
-- the one to which that is bound.
pub record IsSound (board : Board) : Type 0 where
  pub places : length board.places ≡ length board.sessions
  pub placed : (s : ℕ) → s < length board.sessions → IsPlaced board s (place_at board s)
  pub alone : (k s : ℕ) → k < length board.connections → (connection_at board k).session ≡ Some s → (connection_at board k).cause ≡ None
      → (s < length board.sessions) × (place_at board s ≡ Some k)

-- the connection is bound as before, and stands or has ended as before
pub record IsSameLine (old new : ConnectionState) : Type 0 where
  pub session : new.session ≡ old.session
  pub cause : new.cause ≡ old.cause
  pub number : new.number ≡ old.number
