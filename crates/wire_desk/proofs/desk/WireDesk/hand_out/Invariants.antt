use Rattle.std.proofs.Common.{◌≡◌}
use Rattle.wire_desk.specs.Fresh.{AreHandedOut}
use Rattle.wire_desk.proofs.desk.WireDesk.hand_out.Given as goal

abbrev pub invariant-loop-s : goal.invariant-loop-s
invariant-loop-s l = record {
  handed : AreHandedOut l.desk.board l.s l.initial.self.unkept.items l.self.unkept.items;
  rest : l.self ≡ record (l.initial.self) { unkept = l.self.unkept };
}
