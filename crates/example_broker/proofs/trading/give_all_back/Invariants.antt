use Rattle.std.proofs.Common.{◌≡◌}
use Rattle.library_api.specs.Ends.{belongings}
use Rattle.example_broker.specs.Trades.{GivesAllBack}
use Rattle.example_broker.proofs.trading.give_all_back.Given as goal

-- of the sessions so far those were given back that the library had
abbrev pub invariant-giving : goal.invariant-giving
invariant-giving l = record {
  gives : GivesAllBack l.initial.library l.library;
  belongings_stay : belongings l.library.ends ≡ belongings l.initial.library.ends;
}
