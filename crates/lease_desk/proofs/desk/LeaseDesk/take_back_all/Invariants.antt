use Rattle.std.proofs.Common.{◌≡◌, ◌≢◌, ℕ, ◌<◌, length}
use Rattle.lease_desk.specs.Desk.{GoesOn, InTurn, IsInStep, TakesBackFrom, owner_at}
use Rattle.lease_desk.proofs.desk.LeaseDesk.take_back_all.Given as goal

abbrev pub invariant-loop-s : goal.invariant-loop-s
invariant-loop-s l = record {
  turn : InTurn (TakesBackFrom l.library l.at l.until) l.s l.initial.self l.self;
  gone : (j : ℕ) → j < l.s → owner_at l.self.board j ≢ l.library;
  in_step : IsInStep l.self.board l.self.seat;
  table : l.self.seat.table ≡ l.initial.self.seat.table;
  goes_on : (j : ℕ) → GoesOn l.initial.self.board l.self.board j;
  none_comes : length l.self.board.connections ≡ length l.initial.self.board.connections;
  sessions : length l.self.board.sessions ≡ length l.initial.self.board.sessions;
}
