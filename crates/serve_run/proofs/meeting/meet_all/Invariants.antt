use Rattle.std.proofs.Common.{◌≡◌, ℕ, false, length}
use Rattle.engine_loop.specs.Engines.{IsEngine}
use Rattle.gate_io.specs.Wire.{Door, Link}
use Rattle.lease_desk.specs.Desk.{InTurn}
use Rattle.serve_run.specs.Meetings.{AreWorkers, MeetsAt, meeting_of}
use Rattle.serve_run.proofs.meeting.meet_all.Given as goal

-- the libraries so far have met the engine
abbrev pub invariant-loop-place : goal.invariant-loop-place
invariant-loop-place l = record {
  meet : InTurn MeetsAt l.place (meeting_of l.initial.engine l.initial.workers.items) (meeting_of l.engine l.workers.items);
  engine : (door : Door) (links : ℕ → Link) → IsEngine l.shared l.initial.engine door links → IsEngine l.shared l.engine door links;
  stands : l.engine.failed ≡ false;
  workers : AreWorkers l.shared l.workers.items;
  count : length l.workers.items ≡ length l.initial.workers.items;
}
