use Rattle.std.proofs.Common.{◌≡◌}
use Rattle.library_api.specs.Ends.{belongings}
use Rattle.example_broker.specs.Trades.{FindsNoRoom, Repeats}
use Rattle.example_broker.proofs.trading.tell_done.Given as goal

-- so far there was no room
abbrev pub invariant-telling : goal.invariant-telling
invariant-telling g l = record {
  tries : Repeats (FindsNoRoom l.finished) l.initial.library l.library;
  belongings_stay : belongings l.library.ends ≡ belongings l.initial.library.ends;
}
