use Rattle.std.proofs.Common.{add-one, ◌∙◌}
use Rattle.engine_loop.specs.Turns.{at_wire}
use Rattle.engine_loop.specs.Stops.{StopsCallingAll}
use Rattle.engine_loop.proofs.Stopped.{on_err}
use Rattle.engine_loop.proofs.engine.Engine.dial_all.Goals as goal

pub loop-s-preserved : goal.loop-s-preserved
loop-s-preserved g c =
    let was = c.loop-s.invariant in
    let now = c.in_ok-dial_session.ensures in
    record {
      turn = rw add-one (at_wire c.loop-s.self (g.W.Wire.door c.loop-s.wire) (g.W.Wire.link c.loop-s.wire), was.turn, now.dials);
      work = now.work;
      online = now.online;
      count = now.count ∙ was.count;
      failed = c.dial_session.ensures.failed ∙ was.failed;
    }

pub returns-in_err-dial_session-clause-stops : goal.returns-in_err-dial_session-clause-stops
returns-in_err-dial_session-clause-stops g c =
    let door = g.W.Wire.door in
    let link = g.W.Wire.link in
    let stops : StopsCallingAll (at_wire c.args.self.now (door c.args.wire.now) (link c.args.wire.now)) c.dial_session.new.self = record {
      count = c.loop-s.s;
      between = at_wire c.loop-s.self (door c.loop-s.wire) (link c.loop-s.wire);
      dials = c.loop-s.invariant.turn;
      stops = c.in_err-dial_session.ensures.stops;
    } in
    on_err c.from_residual.result stops
