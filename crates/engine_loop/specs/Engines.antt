-- What holds of an engine between two steps of a turn.
use Rattle.std.specs.Prelude.{◌≡◌, ℕ, ◌+◌, ◌≤◌, false, length, min}
use Rattle.engine_end.specs.Room.{HasRoomFor}
use Rattle.engine_loop.specs.declared.engine.Engine.{Engine}
use Rattle.gate_io.specs.Wire.{Door, Link}
use Rattle.gate_io.specs.declared.clocks.TheConstants.{LAST_MOMENT}
use Rattle.gate_io.specs.declared.wires.TheConstants.{MOST_CONNECTIONS}
use Rattle.lease_desk.specs.Desk.{AllAgree}
use Rattle.library_desk.specs.Serving.{IsInOrder, IsLinked}
use Rattle.library_desk.specs.declared.shared.Shared.{Shared}
use Rattle.wire_desk.specs.Dials.{IsDialling}
use Rattle.wire_desk.specs.Lines.{IsSetUp, IsWired}
use Rattle.wire_desk.specs.Places.{AreInOrder, open_places}
use Rattle.wire_desk.specs.Steps.{AreApart}

-- sessions, libraries and connections belong together, and are in order
pub record IsAtWork (shared : Shared) (e : Engine) : Type 0 where
  pub linked : IsLinked shared e.sessions
  pub in_order : IsInOrder e.sessions
  pub set_up : IsSetUp shared.leases e.sessions.desk e.lines
  pub moment : e.moment ≤ LAST_MOMENT
  pub most : e.connections ≤ MOST_CONNECTIONS
  pub few : e.accepted ≤ e.connections

-- there is room for what the sessions leave, and as many connections as the run can have
pub record HasSpare (e : Engine) : Type 0 where
  pub for_sessions : length e.sessions.desk.board.sessions ≤ e.spare.sessions
  pub for_connections : e.connections + e.dialler.most ≤ e.spare.connections

-- The wire has the engine's connections, not more than it gave, and those that aren't closed are listed once each, those of a kind in the order in which they came.
pub record IsOnline (e : Engine) (door : Door) (links : ℕ → Link) : Type 0 where
  pub wired : IsWired e.sessions.desk.board (open_places e.lines) door links
  pub dialling : IsDialling e.sessions.desk.board door e.dialler
  pub accepted : e.accepted ≡ door.accepted
  pub apart : AreApart (open_places e.lines)
  pub in_order : AreInOrder e.lines
  pub few_accepted : length e.lines.accepted.items ≤ e.accepted
  pub few_dialled : length e.lines.dialled.items ≤ e.dialler.made
  pub came : length e.sessions.desk.board.connections ≤ e.accepted + e.dialler.made
  pub spare : HasSpare e

-- An engine between two calls: the journals tell the leases that its seat has seen, there is room for what sessions and connections leave, and where memory never was wanting, all is in order.
pub record IsEngine (shared : Shared) (e : Engine) (door : Door) (links : ℕ → Link) : Type 0 where
  pub agree : AllAgree e.sessions.desk.board e.sessions.desk.seat
  pub room : HasRoomFor e.sessions.desk.board e.spare
  pub work : e.failed ≡ false → IsAtWork shared e
  pub online : e.failed ≡ false → IsOnline e door links

-- the moment until which an heir is waited for
abbrev pub until_of : Engine → ℕ
until_of e = min (e.moment + e.hold) LAST_MOMENT
