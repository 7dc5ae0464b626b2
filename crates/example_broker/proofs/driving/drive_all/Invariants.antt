use Rattle.std.proofs.Common.{◌≡◌, false}
use Rattle.engine_loop.specs.Engines.{IsEngine}
use Rattle.engine_loop.specs.Turns.{at_wire}
use Rattle.example_broker.specs.Turns.{Drives}
use Rattle.example_broker.proofs.driving.drive_all.Given as goal

-- turns so far
abbrev pub invariant-turning : goal.invariant-turning
invariant-turning g l = record {
  drives : Drives (at_wire l.initial.engine (g.W.Wire.door l.initial.wire) (g.W.Wire.link l.initial.wire)) (at_wire l.engine (g.W.Wire.door l.wire) (g.W.Wire.link l.wire));
  engine : IsEngine l.shared l.engine (g.W.Wire.door l.wire) (g.W.Wire.link l.wire);
  stands : l.engine.failed ≡ false;
}
