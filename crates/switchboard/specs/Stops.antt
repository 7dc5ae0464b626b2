-- Where a call stops for want of memory.
use Rattle.std.specs.Prelude.{◌≡◌, ◌≢◌, ◌⊎◌, ℕ, ◌<◌, length, Bool, true, false, List, [], ◌∷◌, ◌++◌, None, Some, IsNone}
use Rattle.connection_core.specs.Connection.{ConnectionState, IsGiven}
use Rattle.connection_core.specs.Outgoing.{no_outgoing}
use Rattle.lease_core.specs.declared.event.Event.TheVariants.{Binds}
use Rattle.session_core.specs.Ask.{after_ask, ask}
use Rattle.session_core.specs.Receive.{after_receive, receive}
use Rattle.session_core.specs.Runs.{binds as is_logon}
use Rattle.session_core.specs.Tick.{after_tick, tick}
use Rattle.session_core.specs.declared.acts.Act.{Act}
use Rattle.session_core.specs.declared.names.Names.{Names}
use Rattle.session_book.specs.Acts.{IsBegun}
use Rattle.session_book.specs.Book.{Desk, IsSameSession, with_event, with_machine, with_outbox}
use Rattle.switchboard.specs.Board.{Board, book_at, connection_at, outgoing_at, place_at}
use Rattle.switchboard.specs.Going.{IsHeldAsBefore}
use Rattle.switchboard.specs.Happenings.{Happening, answers, binds, dials, prepares, receives, reserves, ticks, writes}
use Rattle.switchboard.specs.Sound.{bound_of}

-- the same connection of the same session, of which came what had come
pub record IsSameStream (old new : ConnectionState) : Type 0 where
  pub number : new.number ≡ old.number
  pub dialled : new.dialled ≡ old.dialled
  pub session : new.session ≡ old.session
  pub came : IsHeldAsBefore old new

-- each connection that there was
abbrev pub AreSameStreams : Board → Board → Type 0
AreSameStreams old new = (k : ℕ) → k < length old.connections → IsSameStream (connection_at old k) (connection_at new k)

-- No session changes, no connection comes, and of none anything came. What is to be written may have changed.
pub record NothingIsTold (old new : Board) : Type 0 where
  pub sessions : length new.sessions ≡ length old.sessions
  pub books : (s : ℕ) → book_at new s ≡ book_at old s
  pub count : length new.connections ≡ length old.connections
  pub streams : AreSameStreams old new

-- A beginning of these acts is carried out on one session, each whole, from this session on.
pub record ActsAreBegun (s at : ℕ) (acts : List Act) (start : Desk) (old new : Board) : Type 0 where
  pub within : s < length old.sessions
  pub stopped : Desk
  pub begun : IsBegun at acts start stopped
  pub book : book_at new s ≡ stopped.book
  pub count : length new.sessions ≡ length old.sessions
  pub others : (j : ℕ) → j ≢ s → book_at new j ≡ book_at old j
  pub same : IsSameSession (book_at old s) (book_at new s)

-- what a message asks for is begun
pub record ReceiptIsBegun (s k : ℕ) (body : List ℕ) (at : ℕ) (old new : Board) : Type 0 where
  pub placed : place_at old s ≡ Some k
  pub begun : ActsAreBegun s at (receive (book_at old s).machine body at).acts
      (with_outbox (with_machine (after_receive (book_at old s).machine body at) (book_at old s)) (outgoing_at old (Some k))) old new
  pub count : length new.connections ≡ length old.connections
  pub streams : AreSameStreams old new

-- the connection of the bind: it names the session, or doesn't yet
pub record MayName (s : ℕ) (old new : ConnectionState) : Type 0 where
  pub number : new.number ≡ old.number
  pub dialled : new.dialled ≡ old.dialled
  pub session : (new.session ≡ None) ⊎ (new.session ≡ Some s)
  pub came : IsHeldAsBefore old new

-- A session is bound by its journal, and what its Logon asks for is begun.
pub record BindIsBegun (s k : ℕ) (body : List ℕ) (at : ℕ) (old new : Board) : Type 0 where
  pub connection_within : k < length old.connections
  pub names : List Names
  pub logon : is_logon names body ≡ true
  pub accepts : (book_at old s).machine.dials ≡ None
  pub free : bound_of (book_at old s) ≡ None
  pub unbound : IsNone (connection_at old k).session
  pub stands : IsNone (connection_at old k).cause
  pub begun : ActsAreBegun s at (receive (book_at old s).machine body at).acts
      (with_outbox (with_machine (after_receive (book_at old s).machine body at) (with_event (Binds (connection_at old k).number) (book_at old s))) (outgoing_at old (Some k))) old new
  pub count : length new.connections ≡ length old.connections
  pub here : MayName s (connection_at old k) (connection_at new k)
  pub others : (j : ℕ) → j ≢ k → j < length old.connections → IsSameStream (connection_at old j) (connection_at new j)

-- no session changes
pub record NoSessionChanges (old new : Board) : Type 0 where
  pub count : length new.sessions ≡ length old.sessions
  pub books : (s : ℕ) → book_at new s ≡ book_at old s

-- A session dialled a connection, the last one. It isn't bound to it; or it is by its journal, and what it asks for is begun.
pub record DialIsBegun (s number at : ℕ) (old new : Board) : Type 0 where
  pub new_number : (k : ℕ) → k < length old.connections → (connection_at old k).number ≢ number
  pub free : bound_of (book_at old s) ≡ None
  pub begun : NoSessionChanges old new
      ⊎ ActsAreBegun s at (ask (book_at old s).machine).acts (with_outbox (with_machine (after_ask (book_at old s).machine at) (with_event (Binds number) (book_at old s))) no_outgoing) old new
  pub connection : ConnectionState
  pub connections : new.connections ≡ old.connections ++ connection ∷ []
  pub number_is : connection.number ≡ number
  pub dialled : connection.dialled ≡ true
  pub session : connection.session ≡ Some s
  pub nothing_came : IsGiven connection []

-- what the clock asks for is begun
pub record TickIsBegun (s at : ℕ) (old new : Board) : Type 0 where
  pub begun : ActsAreBegun s at (tick (book_at old s).machine at).acts
      (with_outbox (with_machine (after_tick (book_at old s).machine at) (book_at old s)) (outgoing_at old (place_at old s))) old new
  pub count : length new.connections ≡ length old.connections
  pub streams : AreSameStreams old new

-- It was begun, and memory was wanting in the midst of it or directly behind it. All else that happens is whole, or doesn't happen.
abbrev pub IsBegunBy : Happening → Board → Board → Type 0
IsBegunBy (receives s k body at) old new = ReceiptIsBegun s k body at old new
IsBegunBy (binds s k body at) old new = BindIsBegun s k body at old new
IsBegunBy (dials s number at) old new = DialIsBegun s number at old new
IsBegunBy (ticks s at) old new = TickIsBegun s at old new
IsBegunBy _ old new = ⊥

-- it didn't happen, or was begun
abbrev pub StopsIn : Happening → Board → Board → Type 0
StopsIn happening old new = NothingIsTold old new ⊎ IsBegunBy happening old new

-- no session comes or goes, and each has its names and its leases
pub record HaveSameSessions (old new : Board) : Type 0 where
  pub count : length new.sessions ≡ length old.sessions
  pub same : (s : ℕ) → IsSameSession (book_at old s) (book_at new s)
  pub leases : (s : ℕ) → (book_at new s).leases ≡ (book_at old s).leases

-- by it no session changes, and of no connection anything comes
abbrev pub is_untold : Happening → Bool
is_untold (answers k) = true
is_untold (prepares s k) = true
is_untold (writes k n) = true
is_untold (reserves s) = true
is_untold _ = false
