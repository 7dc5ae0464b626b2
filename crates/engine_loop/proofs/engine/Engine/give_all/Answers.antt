use Rattle.engine_loop.specs.Turns.{at_wire}
use Rattle.engine_loop.specs.Stops.{StopsGiving}
use Rattle.engine_loop.proofs.Stopped.{on_err}
use Rattle.engine_loop.proofs.engine.Engine.give_all.Goals as goal

pub write_all-requires-clause-online : goal.write_all-requires-clause-online
write_all-requires-clause-online g c = c.publish_all.ensures.online (g.W.Wire.door c.args.wire.now) (g.W.Wire.link c.args.wire.now) c.requires.online

pub returns-clause-gives : goal.returns-clause-gives
returns-clause-gives g c = record { published = c.publish_all.new.self; publishes = c.publish_all.ensures.publishes; writes = c.in_ok-bytes.ensures.writes }

pub returns-in_err-bytes-clause-stops : goal.returns-in_err-bytes-clause-stops
returns-in_err-bytes-clause-stops g c =
    let stops : StopsGiving (at_wire c.args.self.now (g.W.Wire.door c.args.wire.now) (g.W.Wire.link c.args.wire.now)) c.write_all.new.self = record {
      published = c.publish_all.new.self;
      publishes = c.publish_all.ensures.publishes;
      stops = c.in_err-bytes.ensures.stops;
    } in
    on_err c.from_residual.result stops
