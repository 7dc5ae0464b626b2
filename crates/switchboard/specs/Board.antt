-- The sessions and the connections together.
use Rattle.std.specs.Prelude.{◌≡◌, ℕ, List, [], ◌∷◌, ◌++◌, Option, None, Some, slice_index_or, slice_set}
use Rattle.connection_core.specs.Connection.{ConnectionState, fresh}
use Rattle.connection_core.specs.Outgoing.{Outgoing, Outlet, no_outgoing}
use Rattle.session_book.specs.Names2.{Names2}
use Rattle.session_book.specs.Line.{fresh_line}
use Rattle.session_core.specs.State.{new_state}
use Rattle.session_book.specs.Book.{Book, Desk, with_outbox}
use Rattle.session_book.specs.Kept.{Kept}

-- the sessions; for each the place of the connection to which it is bound; the connections; and where the items go of a session that is bound to none
pub record Board : Type 0 where
  pub sessions : List Kept
  pub places : List (Option ℕ)
  pub connections : List ConnectionState
  pub nowhere : Outlet

-- what stands for a session, or for a connection, that isn't there
abbrev pub no_session : Kept
no_session = record { book = record { machine = new_state [] [] None fresh_line; leases = 0; entries = []; inbound = []; outbound = [] ∷ [] }; spare = 0 }

abbrev pub no_connection : ConnectionState
no_connection = fresh 0 0 (record { outgoing = no_outgoing; spare = 0 })

abbrev pub session_at : Board → ℕ → Kept
session_at board s = slice_index_or board.sessions s no_session

abbrev pub book_at : Board → ℕ → Book
book_at board s = (session_at board s).book

abbrev pub place_at : Board → ℕ → Option ℕ
place_at board s = slice_index_or board.places s None

abbrev pub connection_at : Board → ℕ → ConnectionState
connection_at board k = slice_index_or board.connections k no_connection

-- one session more, which is bound to no connection
abbrev pub with_session_more : Kept → Board → Board
with_session_more session board = record board { sessions = board.sessions ++ session ∷ []; places = board.places ++ None ∷ [] }

abbrev pub with_connections : List ConnectionState → Board → Board
with_connections connections board = record board { connections = connections }

-- the connection at a place becomes another
abbrev pub with_connection : ℕ → ConnectionState → Board → Board
with_connection k connection board = record board { connections = slice_set board.connections k connection }

-- what waits on the connection at a place, or on none
abbrev pub outgoing_at : Board → Option ℕ → Outgoing
outgoing_at board None = board.nowhere.outgoing
outgoing_at board (Some k) = (connection_at board k).out.outgoing

-- a session with what waits on the connection at a place
abbrev pub desk_with : Board → ℕ → Option ℕ → Desk
desk_with board s place = with_outbox (book_at board s) (outgoing_at board place)

-- a session with what waits on the connection to which it is bound
abbrev pub desk_at : Board → ℕ → Desk
desk_at board s = desk_with board s (place_at board s)

-- the outboxes but that of the connection at a place are as they were, and so is all else of each connection
abbrev pub OutboxChanges : Option ℕ → Board → Board → Type 0
OutboxChanges None old new = new.connections ≡ old.connections
OutboxChanges (Some k) old new = (new.connections ≡ slice_set old.connections k (record (connection_at old k) { out = (connection_at new k).out })) × (new.nowhere ≡ old.nowhere)

-- One session changes, with what waits on the connection at a place, and nothing else.
pub record DeskChanges (s : ℕ) (place : Option ℕ) (old new : Board) : Type 0 where
  pub sessions : new.sessions ≡ slice_set old.sessions s (session_at new s)
  pub places : new.places ≡ old.places
  pub connections : OutboxChanges place old new

-- one session changes, and nothing else
abbrev pub with_session : ℕ → Kept → Board → Board
with_session s session board = record board { sessions = slice_set board.sessions s session }

-- one is bound to the connection at a place, or to none
abbrev pub with_place : ℕ → Option ℕ → Board → Board
with_place s place board = record board { places = slice_set board.places s place }

-- where what is to be written waits of the connection at a place, or of none
abbrev pub outlet_at : Board → Option ℕ → Outlet
outlet_at board None = board.nowhere
outlet_at board (Some k) = (connection_at board k).out

-- the names of a session, as what is written wants them
abbrev pub names_at : Board → ℕ → Names2
names_at board s = record { us = (book_at board s).machine.names.us; them = (book_at board s).machine.names.them }

-- One session changes, and so does the connection at a place, to which it is bound from then on, or no longer.
pub record PlugChanges (s k : ℕ) (place : Option ℕ) (old new : Board) : Type 0 where
  pub sessions : new.sessions ≡ slice_set old.sessions s (session_at new s)
  pub places : new.places ≡ slice_set old.places s place
  pub connections : new.connections ≡ slice_set old.connections k (connection_at new k)
  pub nowhere : new.nowhere ≡ old.nowhere
