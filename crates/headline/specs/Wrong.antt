-- Wrong records: each of these families is of records that are wrong in one way, whatever else they have.
use Rattle.std.specs.Prelude.{◌≡◌, ℕ, ◌<◌, true, List, [], ◌∷◌, ◌++◌, codes, length, slice_get, None, Some, Err, Ok}
use Rattle.connection_core.specs.declared.records.ConnRecord.{ConnRecord}
use Rattle.engine_config.specs.declared.config.Config.{Config}
use Rattle.engine_end.specs.Records.{SessionLeft}
use Rattle.gate_io.specs.Wire.{Link}
use Rattle.headline.specs.Headline.{HasSession, Headline, first_in}
use Rattle.lease_core.specs.State.{State as Totals, series_of}
use Rattle.lease_core.specs.declared.entry.Entry.{Entry}
use Rattle.lease_core.specs.declared.entry.Entry.TheVariants.{Admin, Arrive, Bind, Granted, Leave, Release, Send, Timeout}
use Rattle.lease_core.specs.declared.entry.Why.TheVariants.{LeasesSpent}
use Rattle.lease_core.specs.declared.word.Standing.TheVariants.{Active}
use Rattle.library_api.specs.declared.event.Event.TheVariants as events
use Rattle.library_api.specs.declared.refusal.SendRefusal.TheVariants.{Lost}
use Rattle.message_log.specs.declared.entry.OutEntry.{OutEntry}
use Rattle.run_report.specs.declared.calls.Call.{Call}
use Rattle.run_report.specs.declared.calls.Call.TheVariants as calls
use Rattle.run_report.specs.declared.records.LibReport.{LibReport}
use Rattle.run_report.specs.declared.records.RunRecord.{RunRecord}
use Rattle.session_book.specs.Spells.{Placed, Spell, placed, spells_behind}
use Rattle.session_book.specs.Told.{IsLogged}
use Rattle.session_core.specs.declared.acts.Admin.TheVariants.{Heartbeat}

-- the headline holds of no record of which this is so
abbrev pub IsRefuted : (RunRecord → Type 0) → Type 0
IsRefuted IsWrong = (config : Config) (links : ℕ → Link) (left : RunRecord) → IsWrong left → Headline config links left → ⊥

-- a session with these entries and logs
abbrev pub session_with : List Entry → List (List ℕ) → List (List OutEntry) → SessionLeft
session_with entries inbound outbound = record { names = record { us = codes "GATE"; them = codes "HUB" }; leases = 3; entries = entries; inbound = inbound; outbound = outbound }

-- the outbound log has one message, or none
abbrev pub one_message : List (List OutEntry)
one_message = (record { at = 0; admin = true; body = codes "35=0" } ∷ []) ∷ []

abbrev pub no_message : List (List OutEntry)
no_message = [] ∷ []

-- The inbound log has a message, and the journal no arrival.
abbrev pub LogsNoArrival : RunRecord → Type 0
LogsNoArrival left = HasSession left 0 (session_with [] (codes "35=D" ∷ []) no_message)

-- The outbound log has a message, and the journal no number.
abbrev pub LogsNoNumber : RunRecord → Type 0
LogsNoNumber left = HasSession left 0 (session_with [] [] one_message)

-- Two libraries have the session at once.
abbrev pub HasTwoOwners : RunRecord → Type 0
HasTwoOwners left = HasSession left 0 (session_with (Granted 1 1 1 0 0 ∷ Granted 2 1 2 0 0 ∷ []) [] no_message)

-- The engine takes the session back from nobody, and so has two holdings, one behind the other.
abbrev pub TakesBackFromNobody : RunRecord → Type 0
TakesBackFromNobody left = HasSession left 0 (session_with (Timeout 1 1 0 ∷ []) [] no_message)

-- The session machine answers before the session is bound.
abbrev pub AnswersUnbound : RunRecord → Type 0
AnswersUnbound left = HasSession left 0 (session_with (Admin 1 ∷ Bind 0 ∷ []) [] one_message)

-- The session is bound to a connection while it is bound to another one.
abbrev pub BindsTwoAtOnce : RunRecord → Type 0
BindsTwoAtOnce left = HasSession left 0 (session_with (Bind 0 ∷ Bind 1 ∷ []) [] no_message)

-- It is bound to one connection twice.
abbrev pub BindsOneTwice : RunRecord → Type 0
BindsOneTwice left = HasSession left 0 (session_with (Bind 0 ∷ Leave 0 ∷ Bind 0 ∷ []) [] no_message)

-- Two sessions are bound to one connection.
pub record ShareOneConnection (left : RunRecord) : Type 0 where
  pub first : HasSession left 0 (session_with (Bind 0 ∷ []) [] no_message)
  pub second : HasSession left 1 (session_with (Bind 0 ∷ []) [] no_message)

-- The session is bound to a connection that isn't there.
pub record BindsNone (left : RunRecord) : Type 0 where
  pub session : HasSession left 0 (session_with (Bind 0 ∷ []) [] no_message)
  pub none : left.engine.connections ≡ []

-- a connection of session 0 that stands, of which nothing came
abbrev pub connection_with : List ℕ → ConnRecord
connection_with written = record { session = Some 0; taken = []; garbled = 0; written = written; cause = None }

-- A connection took bytes, as they were another one's, of which its session's journal tells no message.
pub record WritesWhatIsNotTold (left : RunRecord) : Type 0 where
  pub session : HasSession left 0 (session_with (Bind 0 ∷ []) [] no_message)
  pub connection : slice_get left.engine.connections 0 ≡ Some (connection_with (codes "8=FIX.4.4"))

-- Session 0 had one connection, which it dialled, and its journal tells this spell of it.
pub record HasOneDialled (left : RunRecord) (session : SessionLeft) (spell : Spell) : Type 0 where
  pub has : HasSession left 0 session
  pub accepted : left.engine.accepted ≡ 0
  pub c : ConnRecord
  pub at : slice_get left.engine.connections 0 ≡ Some c
  pub names : c.session ≡ Some 0
  pub spells : spells_behind [] session.entries ≡ spell ∷ []

-- A dialled connection on which no answer came took more than the first item of the text that its session's journal tells.
pub record TakesMoreThanItsLogon (left : RunRecord) : Type 0 where
  pub session : SessionLeft
  pub spell : Spell
  pub dialled : HasOneDialled left session spell
  pub nothing_came : dialled.c.taken ≡ []
  pub byte : ℕ
  pub more : List ℕ
  pub took : dialled.c.written ≡ first_in session spell ++ byte ∷ more

-- On a dialled connection a library's message comes before the Logon, so that the first item of its text is that message.
pub record SendsBeforeItsLogon (left : RunRecord) : Type 0 where
  pub session : SessionLeft
  pub spell : Spell
  pub dialled : HasOneDialled left session spell
  pub before : Totals
  pub lease : ℕ
  pub library : ℕ
  pub ordinal : ℕ
  pub number : ℕ
  pub later : List Placed
  pub first : spell.entries ≡ placed before (Send lease library ordinal number) ∷ later

-- A Heartbeat comes before the Logon.
pub record BeatsBeforeItsLogon (left : RunRecord) : Type 0 where
  pub session : SessionLeft
  pub spell : Spell
  pub dialled : HasOneDialled left session spell
  pub before : Totals
  pub number : ℕ
  pub later : List Placed
  pub first : spell.entries ≡ placed before (Admin number) ∷ later
  pub beat : IsLogged session.outbound (series_of before) number (Heartbeat None)

-- A connection stands and names a session whose journal has left it.
pub record StandsWhereItWasLeft (left : RunRecord) : Type 0 where
  pub session : HasSession left 0 (session_with (Bind 0 ∷ Leave 0 ∷ []) [] no_message)
  pub connection : slice_get left.engine.connections 0 ≡ Some (connection_with [])

-- More bytes are garbled than came.
abbrev pub CountsWhatNeverCame : RunRecord → Type 0
CountsWhatNeverCame left = slice_get left.engine.connections 0 ≡ Some (record (connection_with []) { garbled = 1 })

-- what a library reports, of which these are the calls
pub record Reports (left : RunRecord) (called : List Call) : Type 0 where
  pub report : LibReport
  pub at : slice_get left.libraries 0 ≡ Some report
  pub called_is : report.calls ≡ called

-- A request is replied to twice.
abbrev pub IsRepliedToTwice : RunRecord → Type 0
IsRepliedToTwice left = Reports left (calls.Request 0 0 (Ok 1) ∷ calls.Poll (events.Granted 1 0 1 0 0) ∷ calls.Poll (events.Refused 1 0 (LeasesSpent 1)) ∷ [])

-- A library reports a request under another number than its first.
abbrev pub SkipsNumbers : RunRecord → Type 0
SkipsNumbers left = Reports left (calls.Request 0 0 (Ok 2) ∷ [])

-- A send that a library reports the journal has of another library.
pub record SendsForAnother (left : RunRecord) : Type 0 where
  pub session : HasSession left 0 (session_with (Granted 2 1 1 0 0 ∷ Send 1 2 1 1 ∷ []) [] one_message)
  pub reports : Reports left (calls.Send 0 (codes "35=0") (Ok (record { lease = 1; ordinal = 1 })) ∷ [])

-- A library reads its lease's first message at another position than the one that the grant names.
pub record ReadsElsewhere (left : RunRecord) : Type 0 where
  pub session : HasSession left 0 (session_with (Granted 1 1 1 0 0 ∷ []) [] no_message)
  pub reports : Reports left (calls.Poll (events.Message 0 1 5 (codes "35=D")) ∷ [])

-- A library reads a message of a lease that came once the lease had ended: its position is the end of what the library held.
pub record ReadsPastEnd (left : RunRecord) : Type 0 where
  pub session : HasSession left 0 (session_with (Granted 1 1 1 0 0 ∷ Release 1 1 0 0 ∷ Bind 0 ∷ Admin 1 ∷ Arrive 0 ∷ []) (codes "35=D" ∷ []) one_message)
  pub reports : Reports left (calls.Poll (events.Message 0 1 0 (codes "35=D")) ∷ [])

-- A library gave a lease back that the journal has as running.
pub record GivesBackWhatRuns (left : RunRecord) : Type 0 where
  pub session : HasSession left 0 (session_with (Granted 1 1 1 0 0 ∷ []) [] no_message)
  pub reports : Reports left (calls.Release 0 (Ok (record { lease = 1; count = 0 })) ∷ [])

-- A send that a library reports the journal has of its next lease.
pub record SendsByAnotherLease (left : RunRecord) : Type 0 where
  pub session : HasSession left 0 (session_with (Granted 1 1 1 0 0 ∷ Timeout 1 1 0 ∷ Granted 1 2 2 0 0 ∷ Send 2 1 1 1 ∷ []) [] one_message)
  pub reports : Reports left (calls.Send 0 (codes "35=0") (Ok (record { lease = 1; ordinal = 1 })) ∷ [])

-- The journal has that a library gave a lease back, of which the library reports no call.
pub record GivesBackByItself (left : RunRecord) : Type 0 where
  pub session : HasSession left 0 (session_with (Granted 1 1 1 0 0 ∷ Release 1 1 0 0 ∷ []) [] no_message)
  pub reports : Reports left []

-- A send was answered Lost by the word of another library's lease, and the journal has none of it.
pub record LosesByNoWord (left : RunRecord) : Type 0 where
  pub session : HasSession left 0 (session_with (Granted 1 1 1 0 0 ∷ []) [] no_message)
  pub reports : Reports left (calls.Send 0 (codes "35=0") (Err (Lost (record { lease = 2; owner = 2; standing = Active; count = 0 }))) ∷ [])

-- A session that is configured has a stray.
pub record StraysAtHome (left : RunRecord) : Type 0 where
  pub libraries : 0 < length left.libraries
  pub sessions : 0 < length left.engine.sessions
  pub strays : left.engine.strays ≡ record { library = 1; nr = 1; s = 0 } ∷ []
