use Rattle.std.proofs.Common.{◌-◌, ◌≡◌, ◌≤◌, length}
use Rattle.std.specs.Prelude.{IfSome, min}
use Rattle.connection_core.specs.Outgoing.{waiting_text}
use Rattle.connection_core.specs.declared.limits.TheConstants.{MOST_WRITTEN}
use Rattle.session_desk.specs.Steps.{IsSteady}
use Rattle.switchboard.specs.Board.{connection_at}
use Rattle.wire_desk.specs.Steps.{GoesOnWriting, WritesSome}
use Rattle.wire_desk.proofs.Planned.{GoesOnAsPlanned}
use Rattle.wire_desk.proofs.Writes.{GoesOnAtWire}
use Rattle.wire_desk.proofs.writing.write_all.Given as goal

abbrev pub invariant-loop-bytes : goal.invariant-loop-bytes
invariant-loop-bytes g l =
    let number = (connection_at l.fn.desk.board l.k).number in
    record {
      few : l.bytes ≤ MOST_WRITTEN;
      writes : WritesSome l.k l.bytes l.fn.desk.board l.desk.board;
      wire : GoesOnAtWire number (g.W.Wire.door l.fn.wire) (g.W.Wire.door l.wire) (g.W.Wire.link l.fn.wire) (g.W.Wire.link l.wire) (connection_at l.desk.board l.k);
      planned : IfSome (g.W.Wire.link l.fn.wire number).plan (λ plan. GoesOnAsPlanned plan (min (length (waiting_text (connection_at l.fn.desk.board l.k).out.outgoing)) MOST_WRITTEN) l.bytes (g.W.Wire.link l.wire number).plan);
      changes : GoesOnWriting l.k l.fn.desk.board l.desk.board;
      steady : IsSteady l.desk.board l.desk.seat;
      seat : l.desk.seat ≡ l.fn.desk.seat;
    }

abbrev pub decreases-loop-bytes : goal.decreases-loop-bytes
decreases-loop-bytes g l = MOST_WRITTEN - l.bytes
