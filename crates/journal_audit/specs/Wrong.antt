-- Wrong reports: each of these families is of reports that are wrong in one way, whatever else they have.
use Rattle.std.specs.Prelude.{◌≡◌, ℕ, List, [], ◌∷◌, codes, slice_get, Some}
use Rattle.lease_core.specs.declared.entry.Entry.{Entry}
use Rattle.lease_core.specs.declared.entry.Entry.TheVariants.{Arrive, Granted, Hold, Release, Send}
use Rattle.journal_audit.specs.Called.{Called}
use Rattle.journal_audit.specs.Journals.{Journal}
use Rattle.journal_audit.specs.Shown.{Shown, shown_in}
use Rattle.journal_audit.specs.Verdicts.{IsVerdict}
use Rattle.journal_audit.specs.declared.auditing.Verdict.TheVariants.{Yes}
use Rattle.journal_audit.specs.declared.line.Call.{Call}
use Rattle.journal_audit.specs.declared.line.Call.TheVariants.{GaveBack, Read, Sent}

-- no report of which this is so gets the verdict Yes
abbrev pub IsRefuted : (Shown → Type 0) → Type 0
IsRefuted IsWrong = (text : List ℕ) → IsVerdict text Yes → IsWrong (shown_in text) → ⊥

-- Session 0 has these entries and logs, and these are all calls.
pub record Shows (shown : Shown) (es : List Entry) (inbound outbound : List (List ℕ)) (calls : List Called) : Type 0 where
  pub session : Journal
  pub at : slice_get shown.sessions 0 ≡ Some session
  pub entries_are : session.entries ≡ es
  pub inbound_is : session.inbound ≡ inbound
  pub outbound_is : session.outbound ≡ outbound
  pub calls_are : shown.calls ≡ calls

abbrev by : ℕ → Call → Called
by library call = record { library = library; call = call }

-- Two messages come while library 1 has the session.
abbrev held : List Entry
held = Granted 1 1 1 0 0 ∷ Arrive 0 ∷ Arrive 1 ∷ []

abbrev two_messages : List (List ℕ)
two_messages = codes "35=D" ∷ codes "35=F" ∷ []

-- these calls are made beside it
abbrev WhileHeld : List Called → Shown → Type 0
WhileHeld calls shown = Shows shown held two_messages [] calls

-- The library's first message is the second one.
abbrev pub SkipsAMessage : Shown → Type 0
SkipsAMessage shown = WhileHeld (by 1 (Read 0 1 1 (codes "35=F")) ∷ []) shown

-- It reads the first one twice.
abbrev pub ReadsTwice : Shown → Type 0
ReadsTwice shown = WhileHeld (by 1 (Read 0 1 0 (codes "35=D")) ∷ by 1 (Read 0 1 0 (codes "35=D")) ∷ []) shown

-- It reads the second one's body in the first one's place.
abbrev pub ReadsAnother : Shown → Type 0
ReadsAnother shown = WhileHeld (by 1 (Read 0 1 0 (codes "35=F")) ∷ []) shown

-- Another library reads by its lease.
abbrev pub ReadsForAnother : Shown → Type 0
ReadsForAnother shown = WhileHeld (by 2 (Read 0 1 0 (codes "35=D")) ∷ []) shown

-- It reads by a lease that wasn't granted.
abbrev pub ReadsUngranted : Shown → Type 0
ReadsUngranted shown = WhileHeld (by 1 (Read 0 2 0 (codes "35=D")) ∷ []) shown

-- It reads a message that came when it had given the session back.
abbrev pub ReadsTooLate : Shown → Type 0
ReadsTooLate shown = Shows shown (Granted 1 1 1 0 0 ∷ Release 1 1 0 0 ∷ Arrive 0 ∷ []) (codes "35=D" ∷ []) [] (by 1 (Read 0 1 0 (codes "35=D")) ∷ [])

-- There is no such session.
pub record ReadsOfNone (shown : Shown) : Type 0 where
  pub none : shown.sessions ≡ []
  pub calls_are : shown.calls ≡ by 1 (Read 0 1 0 (codes "35=D")) ∷ []

-- The library sends two messages.
abbrev sent_twice : List Entry
sent_twice = Granted 1 1 1 0 0 ∷ Send 1 1 1 1 ∷ Send 1 1 2 2 ∷ []

abbrev WhileSent : List Called → Shown → Type 0
WhileSent calls shown = Shows shown sent_twice [] two_messages calls

-- No call says so.
abbrev pub SendsUntold : Shown → Type 0
SendsUntold shown = WhileSent [] shown

-- The calls say so of the second one first.
abbrev pub SendsOutOfOrder : Shown → Type 0
SendsOutOfOrder shown = WhileSent (by 1 (Sent 0 1 2 (codes "35=F")) ∷ by 1 (Sent 0 1 1 (codes "35=D")) ∷ []) shown

-- They have one more.
abbrev pub SendsOneMore : Shown → Type 0
SendsOneMore shown = WhileSent (by 1 (Sent 0 1 1 (codes "35=D")) ∷ by 1 (Sent 0 1 2 (codes "35=F")) ∷ by 1 (Sent 0 1 3 (codes "35=G")) ∷ []) shown

-- Another body was sent than the log has.
abbrev pub SendsAnother : Shown → Type 0
SendsAnother shown = WhileSent (by 1 (Sent 0 1 1 (codes "35=D")) ∷ by 1 (Sent 0 1 2 (codes "35=G")) ∷ []) shown

-- Another library's calls say it.
abbrev pub SendsForAnother : Shown → Type 0
SendsForAnother shown = WhileSent (by 2 (Sent 0 1 1 (codes "35=D")) ∷ by 2 (Sent 0 1 2 (codes "35=F")) ∷ []) shown

-- A library gives back a session that the journal has as its own still.
abbrev pub GivesBackWhatRuns : Shown → Type 0
GivesBackWhatRuns shown = WhileHeld (by 1 (GaveBack 0 1 0 0) ∷ []) shown

-- The library gives the session back, for library 2 to take.
abbrev WhenHanded : List Called → Shown → Type 0
WhenHanded calls shown = Shows shown (Granted 1 1 1 0 0 ∷ Release 1 1 0 2 ∷ Hold 1 1000 ∷ []) [] [] calls

-- No call says so.
abbrev pub GivesBackUntold : Shown → Type 0
GivesBackUntold shown = WhenHanded [] shown

-- A call says so of another heir.
abbrev pub HandsToAnother : Shown → Type 0
HandsToAnother shown = WhenHanded (by 1 (GaveBack 0 1 0 3) ∷ []) shown

-- A call says so with another count of sends.
abbrev pub CountsAnother : Shown → Type 0
CountsAnother shown = WhenHanded (by 1 (GaveBack 0 1 1 2) ∷ []) shown

-- A call says so of another lease.
abbrev pub GivesBackAnother : Shown → Type 0
GivesBackAnother shown = WhenHanded (by 1 (GaveBack 0 2 0 2) ∷ []) shown
