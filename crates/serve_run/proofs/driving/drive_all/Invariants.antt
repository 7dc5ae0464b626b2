use Rattle.std.proofs.Common.{◌≡◌, ℕ, [], List, false}
use Rattle.engine_loop.specs.Engines.{IsEngine}
use Rattle.engine_loop.specs.Turns.{at_wire}
use Rattle.engine_loop.specs.declared.records.Turn.{Turn}
use Rattle.gate_io.specs.Clock.{TakesReadings}
use Rattle.serve_run.specs.Drives.{DrivesFor, drive_of}
use Rattle.serve_run.specs.Ended.{Awaits}
use Rattle.serve_run.proofs.driving.drive_all.Given as goal

-- so many turns were made, one behind another
abbrev pub invariant-loop-made : goal.invariant-loop-made
invariant-loop-made g l = record {
  turns : List Turn;
  readings : List ℕ;
  drives : DrivesFor l.initial.awaited.connections l.initial.awaited.libraries l._made (drive_of (at_wire l.initial.engine (g.W.Wire.door l.initial.wire) (g.W.Wire.link l.initial.wire)) [] []) (drive_of (at_wire l.engine (g.W.Wire.door l.wire) (g.W.Wire.link l.wire)) turns readings);
  reads : TakesReadings g.C.Clock.has_read l.initial.clock readings l.clock;
  awaits : Awaits l.initial.awaited.connections l.initial.awaited.libraries turns l.awaited;
  engine : IsEngine l.shared l.engine (g.W.Wire.door l.wire) (g.W.Wire.link l.wire);
  stands : l.engine.failed ≡ false;
}
