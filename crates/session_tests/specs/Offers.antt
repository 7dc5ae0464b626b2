-- Calls that may be made on every line.
use Rattle.seq_gaps.specs.declared.calls.Call.{Call}
use Rattle.seq_gaps.specs.declared.calls.Call.TheVariants.{Offer, Fill, TakeReady, Clear, Restart}
use Rattle.seq_gaps.specs.Line.{IsNumber}

-- an offer of a MsgSeqNum, or a taking
abbrev pub IsOfferOrTaking : {T : Type 0} → Call T → Type 0
IsOfferOrTaking (Offer n item) = IsNumber n
IsOfferOrTaking (Fill to) = ⊥
IsOfferOrTaking TakeReady = Unit {0}
IsOfferOrTaking Clear = ⊥
IsOfferOrTaking Restart = ⊥
