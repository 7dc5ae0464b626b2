-- What a run leaves.
use Rattle.std.specs.Prelude.{◌≡◌, List, [], ◌∷◌, not}
use Rattle.engine_end.specs.Finishing.{Finishes}
use Rattle.engine_loop.specs.Engines.{until_of}
use Rattle.engine_loop.specs.declared.engine.Engine.{Engine}
use Rattle.lease_words.specs.Views.{LibraryView}
use Rattle.run_report.specs.declared.records.LibReport.{LibReport}
use Rattle.run_report.specs.declared.records.RunRecord.{RunRecord}
use Rattle.example_broker.specs.declared.starting.Traders.{Traders}
use Rattle.example_broker.specs.declared.trading.Trader.{Trader}

-- the libraries' seats
abbrev pub seats_of : Traders → List LibraryView
seats_of traders = traders.first.library.ends.seat ∷ traders.second.library.ends.seat ∷ []

-- what is told of a library: how many messages it read, whether memory was wanting to it, and how long it waited
abbrev pub report_of : Trader → LibReport
report_of trader = record { number = trader.number; calls = []; reads = trader.desk.reads; finished = not trader.short; waited = trader.library.waited }

-- The engine ends its run with the seats of both libraries, and both are told of.
pub record Leaves (engine : Engine) (traders : Traders) (left : RunRecord) : Type 0 where
  pub finishes : Finishes (seats_of traders) engine.lines.unkept.items engine.accepted engine.moment (until_of engine) engine.sessions left.engine
  pub libraries : left.libraries ≡ report_of traders.first ∷ report_of traders.second ∷ []
