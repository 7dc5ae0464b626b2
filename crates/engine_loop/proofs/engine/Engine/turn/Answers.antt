use Rattle.engine_loop.specs.Turns.{at_wire}
use Rattle.std.proofs.Common.{inl, inr}
use Rattle.engine_loop.specs.Stops.{StopsTurn}
use Rattle.engine_loop.proofs.Stopped.{on_err}
use Rattle.engine_loop.proofs.engine.Engine.turn.Goals as goal

pub returns-clause-turns : goal.returns-clause-turns
returns-clause-turns g c = record {
  taken = c.in_ok-taken.taken;
  middle = at_wire c.take.new.self (g.W.Wire.door c.take.new.wire) (g.W.Wire.link c.take.new.wire);
  takes = c.in_ok-taken.ensures.takes;
  gives = c.in_ok-turn.ensures.gives;
}

pub returns-in_err-taken-clause-stops : goal.returns-in_err-taken-clause-stops
returns-in_err-taken-clause-stops g c = λ goes.
    let stops : StopsTurn (g.C.Clock.last c.take.new.clock) (at_wire c.args.self.now (g.W.Wire.door c.args.wire.now) (g.W.Wire.link c.args.wire.now)) c.take.new.self =
    record { failed = c.in_err-taken.ensures.failed; stops = inl (c.in_err-taken.ensures.stops goes) } in
    on_err c.from_residual.result stops

pub returns-in_err-turn-clause-stops : goal.returns-in_err-turn-clause-stops
returns-in_err-turn-clause-stops g c = λ goes.
    let stops : StopsTurn (g.C.Clock.last c.take.new.clock) (at_wire c.args.self.now (g.W.Wire.door c.args.wire.now) (g.W.Wire.link c.args.wire.now)) c.give.new.self = record {
      failed = c.in_err-turn.ensures.failed;
      stops = inr (record {
        taken = c.in_ok-taken.taken;
        middle = at_wire c.take.new.self (g.W.Wire.door c.take.new.wire) (g.W.Wire.link c.take.new.wire);
        takes = c.in_ok-taken.ensures.takes;
        stops = c.in_err-turn.ensures.stops c.in_ok-taken.ensures.goes_on;
      });
    } in
    on_err c.from_residual-in_err-turn.result stops
