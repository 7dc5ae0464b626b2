use Rattle.std.proofs.Common.{◌≡◌}
use Rattle.library_api.specs.Ends.{belongings}
use Rattle.example_broker.specs.Trades.{Trades}
use Rattle.example_broker.proofs.trading.trade_all.Given as goal

-- rounds so far
abbrev pub invariant-trading : goal.invariant-trading
invariant-trading g l = record {
  trades : Trades l.initial.desk.number l.initial.library l.library;
  number : l.desk.number ≡ l.initial.desk.number;
  belongings_stay : belongings l.library.ends ≡ belongings l.initial.library.ends;
}
