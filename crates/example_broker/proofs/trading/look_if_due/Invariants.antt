use Rattle.std.proofs.Common.{◌≡◌}
use Rattle.library_api.specs.Ends.{belongings}
use Rattle.example_broker.specs.Trades.{Looks}
use Rattle.example_broker.proofs.trading.look_if_due.Given as goal

-- the sessions so far were looked at
abbrev pub invariant-looking : goal.invariant-looking
invariant-looking g l = record {
  looks : Looks l.initial.desk.number l.initial.library l.library;
  number : l.desk.number ≡ l.initial.desk.number;
  belongings_stay : belongings l.library.ends ≡ belongings l.initial.library.ends;
}
