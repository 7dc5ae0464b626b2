-- What an engine and its libraries begin with.
use Rattle.std.specs.Prelude.{◌≡◌, ℕ, ◌+◌, ◌<◌, List, [], ◌∷◌, length, Option, None, Some, replicate, slice_get}
use Rattle.std.specs.List.{All}
use Rattle.catchup_pump.specs.declared.cursor.Cursor.{Cursor}
use Rattle.connection_core.specs.Outgoing.{no_outgoing}
use Rattle.engine_config.specs.Config.{dial_of, names_of}
use Rattle.engine_config.specs.declared.config.Config.{Config}
use Rattle.engine_config.specs.declared.config.DialTo.{DialTo}
use Rattle.engine_start.specs.declared.ends.LibraryEnds.{LibraryEnds}
use Rattle.engine_start.specs.declared.rings.TheConstants.{RING_SLOTS}
use Rattle.lease_words.specs.Tokens.{new_engine_seat, new_library_seat}
use Rattle.lease_words.specs.declared.view.Shape.{Shape}
use Rattle.library_clock.specs.Watched.{Watched}
use Rattle.library_desk.specs.Serving.{cursor_at}
use Rattle.library_desk.specs.declared.desk.LibraryDesk.{LibraryDesk}
use Rattle.library_desk.specs.declared.ends.EngineEnds.{EngineEnds}
use Rattle.library_desk.specs.declared.shared.Shared.{Shared}
use Rattle.ring_links.specs.Ends.{RingId, new_head, new_tail}
use Rattle.seq_gaps.specs.Line.{fresh_line}
use Rattle.session_book.specs.Book.{Book}
use Rattle.session_core.specs.State.{new_state}
use Rattle.session_core.specs.declared.names.Names.{Names}
use Rattle.switchboard.specs.Board.{Board, book_at}
use Rattle.switchboard.specs.Ready.{IsFirst, entries_of}

-- the HeartBtInt with which a session dials, if it does
abbrev pub heart_of : Option DialTo → Option ℕ
heart_of None = None
heart_of (Some dial) = Some dial.heart

-- a session of which nothing was heard: it expects number 1, and its journal and logs are empty
abbrev pub fresh_book : List ℕ → List ℕ → Option ℕ → ℕ → Book
fresh_book us them dials leases = record { machine = new_state us them dials fresh_line; leases = leases; entries = []; inbound = []; outbound = [] ∷ [] }

-- a session as it begins by what is configured of it
abbrev pub configured_book : ℕ → Names → Option DialTo → Book
configured_book leases names dial = fresh_book names.us names.them (heart_of dial) leases

-- One session for each pair of names, and no connection.
pub record StartsSessions (config : Config) (board : Board) : Type 0 where
  pub count : length board.sessions ≡ length config.names
  pub books : (s : ℕ) → s < length config.names → book_at board s ≡ configured_book config.leases (names_of config s) (dial_of config s)
  pub first : IsFirst (entries_of board) board
  pub nowhere : board.nowhere.outgoing ≡ no_outgoing

-- for what the lease table is made: nothing was before
abbrev pub new_shape : Config → Shape
new_shape config = record { sessions = length config.names; libraries = config.libraries; depth = config.lane; sends = config.sends; before = [] }

-- each ring has room for so many
abbrev pub HaveSlots : List RingId → Type 0
HaveSlots rings = All (λ ring. ring.capacity ≡ RING_SLOTS) rings

-- each library has a ring of commands and a ring of notices
pub record HaveRings (config : Config) (shared : Shared) : Type 0 where
  pub commands : length shared.commands.items ≡ config.libraries
  pub notices : length shared.notices.items ≡ config.libraries
  pub command_slots : HaveSlots shared.commands.items
  pub notice_slots : HaveSlots shared.notices.items

-- The table is for the sessions and libraries of the configuration, and each library has two rings.
pub record StartsTable (config : Config) (shared : Shared) : Type 0 where
  pub shape : shared.leases.shape ≡ new_shape config
  pub rings : HaveRings config shared

-- a table for as many sessions and libraries, with lanes of as much room
pub record IsShapeOf (config : Config) (shape : Shape) : Type 0 where
  pub sessions : shape.sessions ≡ length config.names
  pub libraries : shape.libraries ≡ config.libraries
  pub depth : shape.depth ≡ config.lane

-- the first cursor of a session
abbrev pub new_cursor : ℕ → Cursor
new_cursor s = record { s = s; lease = 0; at = 0 }

pub record StartsCursors (sessions : ℕ) (cursors : List Cursor) : Type 0 where
  pub count : length cursors ≡ sessions
  pub each : (s : ℕ) → s < sessions → cursor_at cursors s ≡ new_cursor s

-- the beats of the libraries stand since the moment
abbrev pub new_watch : ℕ → ℕ → ℕ → Watched
new_watch libraries timeout moment = record { timeout = timeout; kept = replicate libraries (record { beat = 0; since = moment }) }

-- The engine's seat has done nothing, and nothing was heard of the libraries or pumped to them.
pub record StartsDesk (config : Config) (moment : ℕ) (shared : Shared) (d : LibraryDesk) : Type 0 where
  pub seat : d.desk.seat ≡ new_engine_seat shared.leases
  pub watch : d.watch ≡ new_watch config.libraries config.timeout moment
  pub cursors : StartsCursors (length config.names) d.cursors.items
  pub strays : d.strays.items ≡ []

-- The engine's ends of the rings at a place are new.
pub record AreEngineEnds (shared : Shared) (place : ℕ) (ends : EngineEnds) : Type 0 where
  pub commands : slice_get shared.commands.items place ≡ Some ends.head.ring
  pub notices : slice_get shared.notices.items place ≡ Some ends.tail.ring
  pub head : ends.head ≡ new_head ends.head.ring
  pub tail : ends.tail ≡ new_tail ends.tail.ring

pub record StartsEngine (config : Config) (shared : Shared) (ends : List EngineEnds) : Type 0 where
  pub count : length ends ≡ config.libraries
  pub each : (j : ℕ) (e : EngineEnds) → slice_get ends j ≡ Some e → AreEngineEnds shared j e

-- A library's number is that behind its place, its seat is that of the number, and its ends of the rings at the place are new.
pub record AreLibraryEnds (shared : Shared) (place : ℕ) (ends : LibraryEnds) : Type 0 where
  pub number : ends.number ≡ place + 1
  pub seat : ends.seat ≡ new_library_seat shared.leases (place + 1)
  pub commands : slice_get shared.commands.items place ≡ Some ends.tail.ring
  pub notices : slice_get shared.notices.items place ≡ Some ends.head.ring
  pub tail : ends.tail ≡ new_tail ends.tail.ring
  pub head : ends.head ≡ new_head ends.head.ring

pub record StartsLibraries (config : Config) (shared : Shared) (ends : List LibraryEnds) : Type 0 where
  pub count : length ends ≡ config.libraries
  pub each : (j : ℕ) (e : LibraryEnds) → slice_get ends j ≡ Some e → AreLibraryEnds shared j e
