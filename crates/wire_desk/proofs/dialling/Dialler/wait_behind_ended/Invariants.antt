use Rattle.std.proofs.Common.{◌≡◌}
use Rattle.std.specs.Prelude.{slice_index_or}
use Rattle.lease_desk.specs.Desk.{InTurn}
use Rattle.wire_desk.specs.Dials.{IsScheduled, WaitsIfEnded}
use Rattle.wire_desk.proofs.dialling.Dialler.wait_behind_ended.Given as goal

abbrev pub invariant-loop-i : goal.invariant-loop-i
invariant-loop-i l = record {
  waits : InTurn (λ i. WaitsIfEnded l.desk.board l.at (slice_index_or l.lines.dialled.items i 0)) l.i l.initial.self l.self;
  scheduled : IsScheduled l.desk.board l.self;
  rest : l.self ≡ record (l.initial.self) { next = l.self.next };
}
