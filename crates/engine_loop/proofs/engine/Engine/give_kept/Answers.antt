use Rattle.engine_loop.proofs.Kept.{kept_texts}
use Rattle.engine_loop.specs.Turns.{at_wire}
use Rattle.engine_loop.proofs.engine.Engine.give_kept.Goals as goal

pub returns-clause-kept : goal.returns-clause-kept
returns-clause-kept g c = λ before kept ready keeps.
    let old = c.args.self.now in
    let new = c.give.new.self in
    let middle = at_wire old (g.W.Wire.door c.args.wire.now) (g.W.Wire.link c.args.wire.now) in
    let last = at_wire new (g.W.Wire.door c.give.new.wire) (g.W.Wire.link c.give.new.wire) in
    kept_texts before kept old.sessions.desk.board new.sessions.desk.board ready (c.requires.kept kept keeps)
    (c.gives_begin_texts.ensures before middle last c.args.taken c.in_ok-turn.turn c.in_ok-turn.ensures.gives ready)
