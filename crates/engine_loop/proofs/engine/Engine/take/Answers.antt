use Rattle.std.proofs.Common.{subst}
use Rattle.engine_loop.specs.Stops.{StopsTaking}
use Rattle.engine_loop.specs.Turns.{at_wire}
use Rattle.engine_loop.proofs.Stopped.{taking}
use Rattle.engine_loop.proofs.engine.Engine.take.Goals as goal

pub returns-in-Err-OutOfMemory-clause-stops : goal.returns-in-Err-OutOfMemory-clause-stops
returns-in-Err-OutOfMemory-clause-stops g c = λ goes.
    let old = at_wire c.args.self.now (g.W.Wire.door c.args.wire.now) (g.W.Wire.link c.args.wire.now) in
    let new = c.take_at.new.self in
    taking (g.C.Clock.last c.now-reading.new.self) old new (subst (λ reading. StopsTaking reading old new) c.now-reading.ensures.last c.in-Err-OutOfMemory.ensures.stops)
