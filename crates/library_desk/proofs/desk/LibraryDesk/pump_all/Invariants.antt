use Rattle.std.proofs.Common.{◌≡◌, ◌≤◌, ◌-◌, length}
use Rattle.lease_desk.specs.Desk.{InTurn}
use Rattle.library_desk.specs.Serving.{IsLinked, IsInOrder, PumpsTo}
use Rattle.library_desk.proofs.desk.LibraryDesk.pump_all.Given as goal

abbrev pub invariant-loop-s : goal.invariant-loop-s
invariant-loop-s l = record {
  pumps : InTurn (PumpsTo l.library) l.from l.initial.self l.self;
  within : l.from ≤ l.sessions;
  desk : l.self.desk ≡ l.initial.self.desk;
  linked : IsLinked l.shared l.self;
  ready : IsInOrder l.self;
  ends : length l.self.ends.items ≡ length l.initial.self.ends.items;
}

-- the sessions that weren't looked at yet
abbrev pub decreases-loop-s : goal.decreases-loop-s
decreases-loop-s l = l.sessions - l.from
