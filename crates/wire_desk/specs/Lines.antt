-- The connections of a board, as the wire has them.
use Rattle.std.specs.Prelude.{◌≡◌, ℕ, ◌+◌, ◌<◌, ◌≤◌, Bool, false, List, length, None, IfSome, nat_lt, is_none, ◌&&◌}
use Rattle.std.specs.List.{All, Contains, filter}
use Rattle.connection_core.specs.Connection.{ConnectionState, room}
use Rattle.connection_core.specs.Outgoing.{written_text}
use Rattle.connection_core.specs.declared.limits.TheConstants.{MOST_READ}
use Rattle.gate_io.specs.MemWire.{WireState, door_of, link_at}
use Rattle.gate_io.specs.Wire.{Door, Link}
use Rattle.gate_io.specs.declared.wires.TheConstants.{FIRST_DIALLED}
use Rattle.lease_desk.specs.declared.desk.LeaseDesk.{LeaseDesk}
use Rattle.lease_words.specs.declared.layout.TheConstants.{LANE_SLOTS}
use Rattle.lease_words.specs.Views.{TableRef}
use Rattle.session_core.specs.declared.routing.TheConstants.{MOST_SESSIONS}
use Rattle.session_desk.specs.Steps.{AreNoted, AreRoutes, IsSteady}
use Rattle.switchboard.specs.Board.{Board, connection_at}
use Rattle.wire_desk.specs.declared.desk.WireDesk.{WireDesk}

-- its number is one of those that the wire gave
pub record IsNumbered (door : Door) (number : ℕ) : Type 0 where
  pub accepted : number < FIRST_DIALLED → number < door.accepted
  pub dialled : FIRST_DIALLED ≤ number → number < FIRST_DIALLED + door.dialled

-- the wire took what is written of it, where it tells that
abbrev pub TookWhatIsWritten : Link → ConnectionState → Type 0
TookWhatIsWritten link c = IfSome link.written (λ bytes. bytes ≡ written_text c.out.outgoing)

-- The wire has this connection: while it stands it isn't closed and has room for a read, and what is written is what the wire took.
pub record IsOnWire (door : Door) (links : ℕ → Link) (c : ConnectionState) : Type 0 where
  pub numbered : IsNumbered door c.number
  pub stands : c.cause ≡ None → (links c.number).closed ≡ false
  pub roomy : c.cause ≡ None → MOST_READ ≤ room c
  pub written : TookWhatIsWritten (links c.number) c

-- a connection at this place is there, and isn't closed
pub record IsOpenPlace (board : Board) (links : ℕ → Link) (k : ℕ) : Type 0 where
  pub within : k < length board.connections
  pub open_still : (links (connection_at board k).number).closed ≡ false

-- a connection at this place is there, and stands
abbrev pub stands_at : Board → ℕ → Bool
stands_at board k = nat_lt k (length board.connections) && is_none (connection_at board k).cause

-- those of the places whose connection stands
abbrev pub standing : Board → List ℕ → List ℕ
standing board places = filter (stands_at board) places

-- Each connection is on the wire, and those at the listed places aren't closed: all that stand are listed.
pub record IsWired (board : Board) (places : List ℕ) (door : Door) (links : ℕ → Link) : Type 0 where
  pub each : (k : ℕ) → k < length board.connections → IsOnWire door links (connection_at board k)
  pub listed : All (IsOpenPlace board links) places
  pub all : (k : ℕ) → k < length board.connections → (connection_at board k).cause ≡ None → Contains places k

-- sessions, routes and notes belong together, and the sessions to the table
pub record IsSetUp (leases : TableRef) (desk : LeaseDesk) (w : WireDesk) : Type 0 where
  pub table : desk.seat.table ≡ leases
  pub depth : leases.shape.depth ≤ LANE_SLOTS
  pub sessions : length desk.board.sessions ≡ leases.shape.sessions
  pub few : leases.shape.sessions ≤ MOST_SESSIONS
  pub routes : AreRoutes desk.board w.routes
  pub few_routes : length w.routes.names.items ≤ MOST_SESSIONS
  pub noted : AreNoted w.unkept.items desk.board
  pub steady : IsSteady desk.board desk.seat
  pub buffer : length w.buffer.items ≡ MOST_READ

-- the wire tells of its connections as before how many there are, which are closed and what was written
pub record KnowsAsBefore (before after : Door) (old new : ℕ → Link) : Type 0 where
  pub accepted : after.accepted ≡ before.accepted
  pub dialled : after.dialled ≡ before.dialled
  pub closed : (c : ℕ) → (new c).closed ≡ (old c).closed
  pub written : (c : ℕ) → (new c).written ≡ (old c).written

-- and so does one in memory
abbrev pub StaysKnown : WireState → WireState → Type 0
StaysKnown old new = KnowsAsBefore (door_of old) (door_of new) (link_at old) (link_at new)
