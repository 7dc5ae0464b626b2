use Rattle.std.proofs.Common.{inl, inr, refl}
use Rattle.engine_loop.specs.Turns.{at_wire}
use Rattle.example_broker.proofs.Driven.{drives_more, on_err}
use Rattle.example_broker.proofs.driving.drive_all.Goals as goal

pub turning-preserved : goal.turning-preserved
turning-preserved g c = record {
  drives = drives_more _ _ _ _ _ c.turning.invariant.drives c.in_ok-turn.ensures.makes;
  engine = c.turn_and_pause.ensures.engine;
  stands = c.in_ok-turn.ensures.goes_on;
}

pub returns-then-is_over-clause-drives : goal.returns-then-is_over-clause-drives
returns-then-is_over-clause-drives g c = drives_more _ _ _ _ _ c.turning.invariant.drives c.in_ok-turn.ensures.makes

pub returns-in_err-turn-clause-short : goal.returns-in_err-turn-clause-short
returns-in_err-turn-clause-short g c =
    on_err c.from_residual.result (record {
      driven = at_wire c.turning.engine (g.W.Wire.door c.turning.wire) (g.W.Wire.link c.turning.wire);
      drives = c.turning.invariant.drives;
      stops = inr (_, c.in_err-turn.ensures.stops c.turning.invariant.stands);
    })

pub returns-in_err-look-clause-short : goal.returns-in_err-look-clause-short
returns-in_err-look-clause-short g c =
    on_err c.from_residual-in_err-look.result (record {
      driven = at_wire c.turn_and_pause.new.self (g.W.Wire.door c.turn_and_pause.new.wire) (g.W.Wire.link c.turn_and_pause.new.wire);
      drives = drives_more _ _ _ _ _ c.turning.invariant.drives c.in_ok-turn.ensures.makes;
      stops = inl refl;
    })
