-- The account of where a turn stopped for want of memory: what the journals tell is what was handled, up to a beginning of the last acts.
use Rattle.std.specs.Prelude.{◌≡◌, ◌≢◌, ◌⊎◌, ℕ, ◌<◌, ◌≤◌, length, List, ◌++◌, None, Some}
use Rattle.std.specs.List.{All, AllPairs}
use Rattle.connection_core.specs.Connection.{IsGiven}
use Rattle.fix_frame.specs.Cut.{CutPiece}
use Rattle.lease_core.specs.declared.entry.Entry.{Entry}
use Rattle.session_book.specs.Book.{Book}
use Rattle.session_book.specs.Runs.{Handled, IsRunBegun, IsRunOver}
use Rattle.session_core.specs.State.{State}
use Rattle.engine_laws.specs.Account.{IsAccountedWith, Progress}
use Rattle.switchboard.specs.Board.{Board, book_at, connection_at}
use Rattle.switchboard.specs.Brought.{good_bodies}
use Rattle.switchboard.specs.Ready.{IsReady}

-- What a session handled of a connection, which names the session, or names none yet: the good ones of the pieces that were handed out of it, but for one at
-- most that was handed out last.
pub record IsHandledOf (board : Board) (s : ℕ) (h : Handled) : Type 0 where
  pub place : ℕ
  pub within : place < length board.connections
  pub number_is : (connection_at board place).number ≡ h.connection
  pub names : ((connection_at board place).session ≡ Some s) ⊎ ((connection_at board place).session ≡ None)
  pub pieces : List CutPiece
  pub given : IsGiven (connection_at board place) pieces
  pub rest : List (List ℕ)
  pub good : good_bodies pieces ≡ h.bodies ++ rest
  pub few : length rest ≤ 1

-- the journal tells the acts of what was handled, of the last connection perhaps only a beginning
abbrev pub IsRunInPart : List Entry → State → List Handled → Book → Type 0
IsRunInPart before start handled book = IsRunOver before start handled book ⊎ IsRunBegun before start handled book

-- The journal of each session tells the acts of what it handled of its connections, each of them once, behind the entries before, by a machine that stood so at
-- the start: all of them, but for one session at most, which may have begun those of its last connection.
pub record IsAccountedInPart (before : ℕ → List Entry) (start : ℕ → State) (board : Board) : Type 0 where
  pub handled : ℕ → List Handled
  pub runs : (s : ℕ) → s < length board.sessions → IsRunInPart (before s) (start s) (handled s) (book_at board s)
  pub one : (s t : ℕ) → s ≢ t → s < length board.sessions → t < length board.sessions
      → IsRunOver (before s) (start s) (handled s) (book_at board s) ⊎ IsRunOver (before t) (start t) (handled t) (book_at board t)
  pub each : (s : ℕ) → s < length board.sessions → All (IsHandledOf board s) (handled s)
  pub once : (s : ℕ) → s < length board.sessions → AllPairs (λ of later. of.connection ≢ later.connection) (handled s)

-- What one board becomes another by, up to this moment, is accounted for in part, where the connections had come so far.
abbrev pub StopsAccountedFor : (ℕ → Progress) → ℕ → Board → Board → Type 0
StopsAccountedFor progress at old new = (before : ℕ → List Entry) (start : ℕ → State) (moment : ℕ) → moment ≤ at → IsReady before old
    → IsAccountedWith progress before start moment old → IsAccountedInPart before start new
