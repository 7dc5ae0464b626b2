use Rattle.std.proofs.Common.{◌≡◌, ◌≤◌, ◌*◌}
use Rattle.connection_core.specs.declared.limits.TheConstants.{MOST_WRITTEN}
use Rattle.wire_desk.specs.Lines.{IsSetUp}
use Rattle.wire_desk.specs.Places.{open_places}
use Rattle.wire_desk.specs.Steps.{AreOnWire, AreOpenFrom, ProgressesUnread, WritesInTurn, written_so_far}
use Rattle.wire_desk.proofs.desk.WireDesk.write_each.Given as goal

abbrev pub invariant-loop-i : goal.invariant-loop-i
invariant-loop-i g l =
    let places = open_places l.self in
    record {
      writes : WritesInTurn places l.i (written_so_far l.fn.desk l.self.unkept.items (g.W.Wire.link l.fn.wire) 0) (written_so_far l.desk l.self.unkept.items (g.W.Wire.link l.wire) l.bytes);
      most : l.bytes ≤ l.i * MOST_WRITTEN;
      door : g.W.Wire.door l.wire ≡ g.W.Wire.door l.fn.wire;
      set_up : IsSetUp l.leases l.desk l.self;
      on_wire : AreOnWire l.desk.board (g.W.Wire.door l.wire) (g.W.Wire.link l.wire);
      open_from : AreOpenFrom l.i l.desk.board (g.W.Wire.link l.wire) places;
      progresses : ProgressesUnread l.fn.desk.board l.desk.board;
    }
