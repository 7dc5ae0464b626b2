use Rattle.std.proofs.Common.{◌≡◌}
use Rattle.wire_desk.specs.Fresh.{fresh_records}
use Rattle.wire_desk.proofs.desk.WireDesk.records.Given as goal

abbrev pub invariant-loop-s : goal.invariant-loop-s
invariant-loop-s l = l.records.items ≡ fresh_records l.desk.board l.self.unkept.items l.s
