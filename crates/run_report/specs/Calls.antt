-- The lines of a library: its head, and its calls with their answers.
use Rattle.std.specs.Prelude.{ℕ, List, [], ◌∷◌, ◌++◌, decimal, codes, Result, Ok, Err}
use Rattle.std.specs.List.{flat_map}
use Rattle.lease_core.specs.declared.word.Standing.{Standing}
use Rattle.lease_core.specs.declared.word.Standing.TheVariants as standings
use Rattle.lease_core.specs.declared.word.Word.{Word}
use Rattle.lease_words.specs.declared.item.Sent.{Sent}
use Rattle.library_api.specs.declared.event.Event.{Event}
use Rattle.library_api.specs.declared.event.Event.TheVariants as events
use Rattle.library_api.specs.declared.refusal.AskError.{AskError}
use Rattle.library_api.specs.declared.refusal.AskError.TheVariants as asking
use Rattle.library_api.specs.declared.refusal.HandRefusal.{HandRefusal}
use Rattle.library_api.specs.declared.refusal.HandRefusal.TheVariants as handing
use Rattle.library_api.specs.declared.refusal.ReleaseRefusal.{ReleaseRefusal}
use Rattle.library_api.specs.declared.refusal.ReleaseRefusal.TheVariants as releasing
use Rattle.library_api.specs.declared.refusal.Released.{Released}
use Rattle.library_api.specs.declared.refusal.SendRefusal.{SendRefusal}
use Rattle.library_api.specs.declared.refusal.SendRefusal.TheVariants as sending
use Rattle.script_text.specs.Printed.{printed_text}
use Rattle.run_report.specs.declared.calls.Call.{Call}
use Rattle.run_report.specs.declared.calls.Call.TheVariants.{Request, Poll, Send, Release, Hand, Beat}
use Rattle.run_report.specs.declared.records.LibReport.{LibReport}
use Rattle.run_report.specs.Journals.{granted_words, refused_words}
use Rattle.run_report.specs.Lines.{indented_line, line, spaced_words}

unfoldable pub standing_word : Standing → List ℕ
standing_word standings.Active = codes "active"
standing_word standings.Released = codes "released"
standing_word standings.Revoked = codes "revoked"

-- a lease word that a library saw
unfoldable pub seen_words : Word → List (List ℕ)
seen_words seen = decimal seen.lease ∷ decimal seen.owner ∷ standing_word seen.standing ∷ decimal seen.count ∷ []

abbrev pub lost_words : Word → List (List ℕ)
lost_words seen = codes "lost" ∷ seen_words seen

unfoldable pub asked_words : Result ℕ AskError → List (List ℕ)
asked_words (Ok nr) = codes "asked" ∷ decimal nr ∷ []
asked_words (Err (asking.Outstanding nr)) = codes "outstanding" ∷ decimal nr ∷ []
asked_words (Err (asking.AsksSpent count)) = codes "asks-spent" ∷ decimal count ∷ []
asked_words (Err (asking.RingFull pushed taken)) = codes "ring-full" ∷ decimal pushed ∷ decimal taken ∷ []

-- a message that a poll gave, one that it dropped, and a lease that it found ended
unfoldable pub message_words : ℕ → ℕ → ℕ → List ℕ → List (List ℕ)
message_words s lease pos bytes =
    codes "message" ∷ decimal s ∷ codes "lease" ∷ decimal lease ∷ codes "pos" ∷ decimal pos ∷ printed_text bytes ∷ []

unfoldable pub stale_words : ℕ → ℕ → ℕ → List (List ℕ)
stale_words s lease pos = codes "stale" ∷ decimal s ∷ codes "lease" ∷ decimal lease ∷ codes "pos" ∷ decimal pos ∷ []

unfoldable pub lease_lost_words : ℕ → ℕ → Word → List (List ℕ)
lease_lost_words s lease seen = codes "lease-lost" ∷ decimal s ∷ codes "lease" ∷ decimal lease ∷ seen_words seen

unfoldable pub event_words : Event → List (List ℕ)
event_words events.Nothing = codes "nothing" ∷ []
event_words (events.NotYet s pos published) = codes "not-yet" ∷ decimal s ∷ decimal pos ∷ decimal published ∷ []
event_words (events.Granted nr s lease from start) = granted_words nr s lease from start
event_words (events.Refused nr s why) = refused_words nr s why
event_words (events.Message s lease pos bytes) = message_words s lease pos bytes
event_words (events.Stale s lease pos) = stale_words s lease pos
event_words (events.LeaseLost s lease seen) = lease_lost_words s lease seen

unfoldable pub sent_words : Result Sent SendRefusal → List (List ℕ)
sent_words (Ok sent) = codes "sent" ∷ decimal sent.lease ∷ decimal sent.ordinal ∷ []
sent_words (Err sending.NotHeld) = codes "not-held" ∷ []
sent_words (Err (sending.TooLong length)) = codes "too-long" ∷ decimal length ∷ []
sent_words (Err (sending.BadBody at)) = codes "bad-body" ∷ decimal at ∷ []
sent_words (Err (sending.LaneFull committed taken)) = codes "lane-full" ∷ decimal committed ∷ decimal taken ∷ []
sent_words (Err (sending.SendsSpent count)) = codes "sends-spent" ∷ decimal count ∷ []
sent_words (Err (sending.Lost seen)) = lost_words seen

unfoldable pub released_words : Result Released ReleaseRefusal → List (List ℕ)
released_words (Ok released) = codes "released" ∷ decimal released.lease ∷ decimal released.count ∷ []
released_words (Err releasing.NotHeld) = codes "not-held" ∷ []
released_words (Err (releasing.Lost seen)) = lost_words seen

unfoldable pub handed_words : Result Released HandRefusal → List (List ℕ)
handed_words (Ok released) = codes "handed" ∷ decimal released.lease ∷ decimal released.count ∷ []
handed_words (Err handing.NotHeld) = codes "not-held" ∷ []
handed_words (Err (handing.BadHeir heir)) = codes "bad-heir" ∷ decimal heir ∷ []
handed_words (Err (handing.Lost seen)) = lost_words seen

-- the call
unfoldable pub called_words : Call → List (List ℕ)
called_words (Request s from answer) = codes "request" ∷ decimal s ∷ decimal from ∷ []
called_words (Poll event) = codes "poll" ∷ []
called_words (Send s body answer) = codes "send" ∷ decimal s ∷ printed_text body ∷ []
called_words (Release s answer) = codes "release" ∷ decimal s ∷ []
called_words (Hand s heir answer) = codes "hand" ∷ decimal s ∷ decimal heir ∷ []
called_words Beat = codes "beat" ∷ []

-- its answer
unfoldable pub answer_words : Call → List (List ℕ)
answer_words (Request s from answer) = asked_words answer
answer_words (Poll event) = event_words event
answer_words (Send s body answer) = sent_words answer
answer_words (Release s answer) = released_words answer
answer_words (Hand s heir answer) = handed_words answer
answer_words Beat = codes "beaten" ∷ []

-- the call, a colon, the answer
abbrev pub call_line : Call → List ℕ
call_line call = spaced_words (called_words call) ++ codes ":" ++ indented_line (answer_words call)

unfoldable pub library_line : LibReport → List ℕ
library_line library = line (codes "library") (decimal library.number ∷ codes "reads" ∷ decimal library.reads ∷ [])

abbrev pub library_text : LibReport → List ℕ
library_text library = library_line library ++ flat_map call_line library.calls
