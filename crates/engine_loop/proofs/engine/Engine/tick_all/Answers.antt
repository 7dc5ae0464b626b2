use Rattle.std.proofs.Common.{add-one, ◌∙◌}
use Rattle.engine_loop.specs.Stops.{StopsTickingAll}
use Rattle.engine_loop.proofs.Stopped.{on_err}
use Rattle.engine_loop.proofs.engine.Engine.tick_all.Goals as goal

pub loop-s-preserved : goal.loop-s-preserved
loop-s-preserved c =
    let was = c.loop-s.invariant in
    let now = c.in_ok-tick_session.ensures in
    record {
      turn = rw add-one (c.loop-s.self, was.turn, now.ticks);
      work = now.work;
      online = λ door links at_first. now.online door links (was.online door links at_first);
      count = now.count ∙ was.count;
      room = c.tick_session.ensures.room;
      failed = c.tick_session.ensures.failed ∙ was.failed;
    }

pub returns-in_err-tick_session-clause-stops : goal.returns-in_err-tick_session-clause-stops
returns-in_err-tick_session-clause-stops c =
    let stops : StopsTickingAll c.args.self.now c.tick_session.new.self = record {
      count = c.loop-s.s;
      between = c.loop-s.self;
      ticks = c.loop-s.invariant.turn;
      stops = c.in_err-tick_session.ensures.stops;
    } in
    on_err c.from_residual.result stops
