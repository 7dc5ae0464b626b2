-- The account of all that happened to sessions and connections up to a moment: what the journals tell is what was handled, and that is what came.
use Rattle.std.specs.Prelude.{◌≡◌, ◌≢◌, ℕ, ◌<◌, ◌≤◌, ◌⊎◌, ◌==◌, if◌then◌else◌, length, List, [], ◌∷◌, None, Some}
use Rattle.std.specs.List.{All, AllPairs}
use Rattle.connection_core.specs.Connection.{ConnectionState}
use Rattle.fix_frame.specs.Cut.{cut}
use Rattle.fix_frame.specs.declared.layout.TheConstants.{LONGEST_FRAME}
use Rattle.lease_core.specs.declared.entry.Entry.{Entry}
use Rattle.session_book.specs.Runs.{Handled}
use Rattle.session_core.specs.State.{State}
use Rattle.switchboard.specs.Board.{Board, connection_at}
use Rattle.switchboard.specs.Brought.{Brought, IsBrought}
use Rattle.switchboard.specs.Happenings.{Happening, accepts, binds, binds_and_ends, dials, gives, receives, shows, takes, ticks, times_out}
use Rattle.switchboard.specs.Ready.{IsReady}
use Rattle.switchboard.specs.Told.{History, IsTold}

-- it names a session
pub record NamesSession (connection : ConnectionState) : Type 0 where
  pub session : ℕ
  pub names : connection.session ≡ Some session

-- It stands, or names a session. The others ended before a session was bound to them.
abbrev pub StandsOrNamesSession : ConnectionState → Type 0
StandsOrNamesSession connection = (connection.cause ≡ None) ⊎ NamesSession connection

-- How far what came on a connection is handled: as far as it has whole pieces; or there may be a further piece; or this message was handed out, and is in
-- hand.
pub data Progress : Type 0 where
  done : Progress
  cutting : Progress
  handling : (body : List ℕ) → Progress

abbrev pub in_hand_at : Progress → List (List ℕ)
in_hand_at done = []
in_hand_at cutting = []
in_hand_at (handling body) = body ∷ []

-- one connection has come to this, and all others are done; or all are
abbrev pub only : ℕ → Progress → ℕ → Progress
only k progress j = if j == k then progress else done

abbrev pub all_done : ℕ → Progress
all_done k = done

-- What came on a connection is handled so far. Where it stands or names a session no other message is in hand. Where it ended before a session was bound to
-- it at most one is: the first, for which it was refused, and which no session handled. Where it stands and all is done, no whole piece is held.
pub record IsHandledTo (progress : Progress) (connection : ConnectionState) (brought : Brought) : Type 0 where
  pub in_hand : StandsOrNamesSession connection → brought.in_hand ≡ in_hand_at progress
  pub few : length brought.in_hand ≤ 1
  pub whole : progress ≡ done → connection.cause ≡ None → (cut LONGEST_FRAME connection.held).pieces ≡ []

-- the connection of this number names the session
pub record IsConnectionOf (board : Board) (s number : ℕ) : Type 0 where
  pub place : ℕ
  pub within : place < length board.connections
  pub number_is : (connection_at board place).number ≡ number
  pub names : (connection_at board place).session ≡ Some s

-- what a session handled is of connections that name it, each of them once
pub record AreConnectionsOf (board : Board) (s : ℕ) (handled : List Handled) : Type 0 where
  pub each : All (λ of. IsConnectionOf board s of.connection) handled
  pub once : AllPairs (λ of later. of.connection ≢ later.connection) handled

-- Up to a moment all that happened is told. The journal of each session tells the acts of what it handled of its connections, and of no others, behind the
-- entries before, by a machine that stood so at the start. What was handled of each connection are the good ones of the pieces that were cut of what came,
-- but for the message in hand; and each connection has come so far.
pub record IsAccountedWith (progress : ℕ → Progress) (before : ℕ → List Entry) (start : ℕ → State) (at : ℕ) (board : Board) : Type 0 where
  pub history : History
  pub brought : ℕ → Brought
  pub moment : ℕ
  pub past : moment ≤ at
  pub told : IsTold before start history moment board
  pub given : IsBrought history brought board
  pub connections : (s : ℕ) → AreConnectionsOf board s (history.handled s)
  pub handled : (k : ℕ) → k < length board.connections → IsHandledTo (progress k) (connection_at board k) (brought k)

-- and each is done
abbrev pub IsAccountedFor : (ℕ → List Entry) → (ℕ → State) → ℕ → Board → Type 0
IsAccountedFor before start at board = IsAccountedWith all_done before start at board

-- What one board becomes another by at this moment keeps it ready and accounts for it, as the connections come from one progress to another.
pub record KeepsAccount (old_progress new_progress : ℕ → Progress) (at : ℕ) (old new : Board) : Type 0 where
  pub ready : (before : ℕ → List Entry) → IsReady before old → IsReady before new
  pub account : (before : ℕ → List Entry) (start : ℕ → State) (moment : ℕ) → moment ≤ at → IsReady before old
      → IsAccountedWith old_progress before start moment old → IsAccountedWith new_progress before start at new

-- each is done before and behind it
abbrev pub StaysAccountedFor : ℕ → Board → Board → Type 0
StaysAccountedFor at old new = KeepsAccount all_done all_done at old new

-- It happens at this moment, if it has one; and by it neither a connection comes, nor do bytes, nor is a piece handed out or a message handled.
abbrev pub IsAside : ℕ → Happening → Type 0
IsAside at (accepts number moment) = ⊥
IsAside at (dials s number moment) = ⊥
IsAside at (takes k bytes) = ⊥
IsAside at (gives k) = ⊥
IsAside at (binds s k body moment) = ⊥
IsAside at (binds_and_ends s k body moment cause) = ⊥
IsAside at (receives s k body moment) = ⊥
IsAside at (ticks s moment) = moment ≡ at
IsAside at (shows s w bodies moment until) = moment ≡ at
IsAside at (times_out s w bodies moment until) = moment ≡ at
IsAside at _ = Unit {0}
