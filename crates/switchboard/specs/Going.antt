-- How sessions and connections go on.
use Rattle.std.specs.Prelude.{◌≡◌, ℕ, ◌<◌, ◌≤◌, length, Bool, true, false, List, ◌++◌, Some}
use Rattle.connection_core.specs.Connection.{ConnectionState}
use Rattle.connection_core.specs.Outgoing.{written_text}
use Rattle.session_core.specs.declared.causes.Cause.{Cause}
use Rattle.session_book.specs.Book.{IsSameSession}
use Rattle.session_book.specs.Rereading.{WentOn}
use Rattle.switchboard.specs.Board.{Board, book_at, connection_at}
use Rattle.switchboard.specs.Happenings.{Happening, accepts, dials, gives, takes, writes}

-- the same connection: what came of it stays, it stays bound to its session, and it ends at most once
pub record IsSameConnection (old new : ConnectionState) : Type 0 where
  pub number : new.number ≡ old.number
  pub since : new.since ≡ old.since
  pub dialled : new.dialled ≡ old.dialled
  pub more : List ℕ
  pub taken : new.taken ≡ old.taken ++ more
  pub bound : (s : ℕ) → old.session ≡ Some s → new.session ≡ Some s
  pub ended : (cause : Cause) → old.cause ≡ Some cause → new.cause ≡ Some cause

-- Each session and each connection goes on: no session comes or goes, and connections come behind those that there are.
pub record GoesOnTo (old new : Board) : Type 0 where
  pub sessions : length new.sessions ≡ length old.sessions
  pub same : (s : ℕ) → IsSameSession (book_at old s) (book_at new s)
  pub books : (s : ℕ) → WentOn (book_at old s) (book_at new s)
  pub more : length old.connections ≤ length new.connections
  pub each : (k : ℕ) → k < length old.connections → IsSameConnection (connection_at old k) (connection_at new k)

-- as many bytes of a connection are written as before, and the same
abbrev pub IsWrittenAsBefore : ConnectionState → ConnectionState → Type 0
IsWrittenAsBefore old new = written_text new.out.outgoing ≡ written_text old.out.outgoing

-- bytes of a connection are written
abbrev pub is_writing : Happening → Bool
is_writing (writes k n) = true
is_writing _ = false

-- neither do bytes come, nor is a piece handed out, nor are bytes written
abbrev pub is_quiet : Happening → Bool
is_quiet (takes k bytes) = false
is_quiet (gives k) = false
is_quiet (writes k n) = false
is_quiet _ = true

-- what came of a connection is as it was: the bytes that were taken, those that are held, and how many were garbled
pub record IsHeldAsBefore (old new : ConnectionState) : Type 0 where
  pub taken : new.taken ≡ old.taken
  pub held : new.held ≡ old.held
  pub garbled : new.garbled ≡ old.garbled

-- the bytes of a connection are as they were: those that came, those that are held, and those that were written
pub record KeepsBytes (old new : ConnectionState) : Type 0 where
  pub taken : new.taken ≡ old.taken
  pub held : new.held ≡ old.held
  pub garbled : new.garbled ≡ old.garbled
  pub written : IsWrittenAsBefore old new

-- a connection comes
abbrev pub is_coming : Happening → Bool
is_coming (accepts number at) = true
is_coming (dials s number at) = true
is_coming _ = false
