use Rattle.std.specs.List.{All}
use Rattle.session_tests.specs.Offers.{IsOfferOrTaking}
use Rattle.session_tests.proofs.calls.calls_of.Given as goal

abbrev pub invariant-loop-text : goal.invariant-loop-text
invariant-loop-text l = All IsOfferOrTaking l.calls.items
