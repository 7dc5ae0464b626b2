use Rattle.std.proofs.Common.{◌≡◌, length}
use Rattle.lease_desk.specs.Desk.{InTurn}
use Rattle.engine_loop.specs.Engines.{IsAtWork, IsOnline}
use Rattle.engine_loop.specs.Turns.{DialsSession, at_wire}
use Rattle.engine_loop.proofs.engine.Engine.dial_all.Given as goal

abbrev pub invariant-loop-s : goal.invariant-loop-s
invariant-loop-s g l = record {
  turn : InTurn DialsSession l.s (at_wire l.initial.self (g.W.Wire.door l.initial.wire) (g.W.Wire.link l.initial.wire)) (at_wire l.self (g.W.Wire.door l.wire) (g.W.Wire.link l.wire));
  work : IsAtWork l.shared l.self;
  online : IsOnline l.self (g.W.Wire.door l.wire) (g.W.Wire.link l.wire);
  count : length l.self.sessions.desk.board.sessions ≡ length l.initial.self.sessions.desk.board.sessions;
  failed : l.self.failed ≡ l.initial.self.failed;
}
