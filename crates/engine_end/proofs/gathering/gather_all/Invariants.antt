use Rattle.std.proofs.Common.{◌≡◌, ◌<◌, ℕ, length}
use Rattle.engine_end.specs.Finishing.{HasAllOf}
use Rattle.lease_desk.specs.Desk.{Gathers, InTurn}
use Rattle.session_desk.specs.Steps.{IsSteady}
use Rattle.switchboard.specs.Going.{GoesOnTo}
use Rattle.engine_end.proofs.gathering.gather_all.Given as goal

-- the first sessions are gathered
abbrev pub invariant-loop-s : goal.invariant-loop-s
invariant-loop-s l = record {
  turn : InTurn (λ s. Gathers s l.at l.until) l.s l.initial.desk l.desk;
  settled : (s : ℕ) → s < l.s → HasAllOf l.desk s;
  steady : IsSteady l.desk.board l.desk.seat;
  goes_on : GoesOnTo l.initial.desk.board l.desk.board;
  connections : length l.desk.board.connections ≡ length l.initial.desk.board.connections;
  table : l.desk.seat.table ≡ l.initial.desk.seat.table;
}
