use Rattle.std.proofs.Common.{◌≡◌, ℕ}
use Rattle.library_api.specs.Ends.{belongings}
use Rattle.example_broker.specs.Answers.{WaitsForRoom}
use Rattle.example_broker.proofs.answering.send_until.Given as goal

-- each send so far found the lane full, and the text is back
abbrev pub invariant-sending : goal.invariant-sending
invariant-sending g l = record {
  count : ℕ;
  waits : WaitsForRoom l.s l.initial.text.items count l.initial.library l.library;
  same : l.text.items ≡ l.initial.text.items;
  belongings_stay : belongings l.library.ends ≡ belongings l.initial.library.ends;
}
