use Rattle.std.proofs.Common.{◌≡◌, ℕ}
use Rattle.gate_io.specs.Wire.{Door, Link}
use Rattle.lease_desk.specs.Desk.{InTurn}
use Rattle.engine_end.specs.Room.{HasRoomFor}
use Rattle.engine_loop.specs.Engines.{IsAtWork, IsOnline}
use Rattle.engine_loop.specs.Turns.{PublishesSession}
use Rattle.engine_loop.proofs.engine.Engine.publish_all.Given as goal

abbrev pub invariant-loop-s : goal.invariant-loop-s
invariant-loop-s l = record {
  turn : InTurn PublishesSession l.s l.initial.self l.self;
  work : IsAtWork l.shared l.self;
  online : (door : Door) (links : ℕ → Link) → IsOnline l.initial.self door links → IsOnline l.self door links;
  board : l.self.sessions.desk.board ≡ l.initial.self.sessions.desk.board;
  room : HasRoomFor l.self.sessions.desk.board l.self.spare;
  failed : l.self.failed ≡ l.initial.self.failed;
}
