-- Offers and takings may be made on every line.
use Rattle.std.proofs.Common.{List, [], ◌∷◌}
use Rattle.std.specs.List.{All}
use Rattle.std.proofs.lemmas.List.Elements.{All-head, All-tail}
use Rattle.seq_gaps.specs.declared.calls.Call.{Call}
use Rattle.seq_gaps.specs.declared.calls.Call.TheVariants.{Offer, Fill, TakeReady, Clear, Restart}
use Rattle.seq_gaps.specs.Calls.{IsAllowed, AreAllowed, line_after}
use Rattle.seq_gaps.specs.Line.{Line}
use Rattle.session_tests.specs.Offers.{IsOfferOrTaking}

module _ {T : Type 0} where
  one_allowed : (line : Line T) (call : Call T) → IsOfferOrTaking call → IsAllowed line call
  one_allowed line (Offer n item) is = is
  one_allowed line (Fill to) is = absurd is
  one_allowed line TakeReady is = tt
  one_allowed line Clear is = absurd is
  one_allowed line Restart is = absurd is

  pub all_allowed : (line : Line T) (calls : List (Call T)) → All IsOfferOrTaking calls → AreAllowed line calls
  all_allowed line [] all = tt
  all_allowed line (call ∷ calls) all = (
    one_allowed line call (All-head IsOfferOrTaking call calls all),
    all_allowed (line_after line call) calls (All-tail IsOfferOrTaking call calls all),
  )
