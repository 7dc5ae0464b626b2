use Rattle.std.proofs.Common.{ap}
use Rattle.wire_desk.specs.declared.desk.WireDesk.{WireDesk}
use Rattle.engine_loop.proofs.engine.Engine.fresh.Goals as goal

pub returns-clause-hands_out : goal.returns-clause-hands_out
returns-clause-hands_out c = record {
  noted = c.note_all.new.self;
  notes = c.in_ok-note_all.ensures.notes;
  records_are = c.in_ok-records.ensures.records;
  handed = c.in_ok-records.ensures.handed;
  rest = ap (λ (w : WireDesk). record (c.note_all.new.self) { lines = w }) c.fresh.ensures.rest;
}
