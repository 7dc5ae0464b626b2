use Rattle.std.proofs.Common.{◌≡◌, ◌≤◌, ◌+◌, length, false, None}
use Rattle.std.specs.Prelude.{if◌then◌else◌}
use Rattle.connection_core.specs.Connection.{room}
use Rattle.connection_core.specs.declared.limits.TheConstants.{MOST_READ}
use Rattle.switchboard.specs.Board.{connection_at}
use Rattle.wire_desk.specs.Lines.{IsSetUp}
use Rattle.wire_desk.specs.Steps.{HandledSoFar, Progresses, sessions_of}
use Rattle.wire_desk.proofs.desk.WireDesk.handle_all.Given as goal

abbrev pub invariant-loop-more : goal.invariant-loop-more
invariant-loop-more l = record {
  so_far : HandledSoFar l.more l.initial.self.routes l.k l.at l.until (sessions_of l.initial.desk l.initial.self.unkept.items) (sessions_of l.desk l.self.unkept.items);
  rest : l.self ≡ record (l.initial.self) { unkept = l.self.unkept };
  set_up : IsSetUp l.leases l.desk l.self;
  progresses : Progresses l.k l.initial.desk.board l.desk.board;
  roomy : l.more ≡ false → (connection_at l.desk.board l.k).cause ≡ None → MOST_READ ≤ room (connection_at l.desk.board l.k);
}

abbrev pub decreases-loop-more : goal.decreases-loop-more
decreases-loop-more l = if l.more then length (connection_at l.desk.board l.k).held + 1 else 0
