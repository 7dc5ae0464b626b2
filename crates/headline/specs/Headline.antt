-- The headline: what holds of the record that a script leaves, in the words of the record alone, of its configuration, and of what the wire tells of its connections.
use Rattle.std.specs.Prelude.{◌≡◌, ◌≢◌, ◌⊎◌, ℕ, ◌+◌, ◌-◌, ◌<◌, ◌≤◌, [], nat_lt, if◌then◌else◌, false, List, length, map, take, sum_by, slice_get, None, Some, Ok, Err}
use Rattle.std.specs.List.{All, AllPairs, Contains, flat_map}
use Rattle.connection_core.specs.Connection.{garbled_in}
use Rattle.connection_core.specs.Items.{text_of}
use Rattle.connection_core.specs.declared.limits.TheConstants.{MOST_WRITTEN}
use Rattle.connection_core.specs.declared.records.ConnRecord.{ConnRecord}
use Rattle.engine_config.specs.Config.{names_of}
use Rattle.engine_config.specs.declared.config.Config.{Config}
use Rattle.engine_end.specs.Records.{SessionLeft, left_in}
use Rattle.fix_frame.specs.Cut.{CutPiece, cut}
use Rattle.fix_frame.specs.declared.layout.TheConstants.{LONGEST_FRAME}
use Rattle.gate_io.specs.Wire.{Link}
use Rattle.gate_io.specs.declared.wires.TheConstants.{FIRST_DIALLED}
use Rattle.headline.specs.Deeds.{DidAsAnswered, LostAsShown}
use Rattle.headline.specs.Dialled.{LogsOn}
use Rattle.headline.specs.Ends.{StandsOrEndedFromOutside}
use Rattle.headline.specs.Within.{IsWithinHolding}
use Rattle.lease_core.specs.Holdings.{AreAdjoining, holdings_of}
use Rattle.lease_core.specs.Laws.{OnlyLastRuns}
use Rattle.lease_core.specs.Lines.{lines_of}
use Rattle.lease_core.specs.Runs.{IsRun, owes_hold}
use Rattle.lease_core.specs.State.{state_of}
use Rattle.lease_core.specs.declared.messages.Notice.{Notice}
use Rattle.lease_core.specs.declared.messages.Notice.TheVariants as notices
use Rattle.library_api.specs.Calls.{numbers_to}
use Rattle.library_desk.specs.declared.desk.Stray.{Stray}
use Rattle.engine_laws.specs.libraries.Replies.{Ask, answered_by, replies_told, reply_of, stray_reply, stray_told}
use Rattle.engine_laws.specs.libraries.Sends.{logged_bodies}
use Rattle.message_log.specs.declared.entry.OutEntry.{OutEntry}
use Rattle.resend_plan.specs.declared.item.Names2.{Names2}
use Rattle.headline.specs.runs.Accounted.{first_machines}
use Rattle.headline.specs.runs.Reports.{AreFromGrant, HandsOn, IsGivenBack, asks_kept, positions_kept, posts_kept}
use Rattle.headline.specs.runs.Sides.{Begins}
use Rattle.run_report.specs.declared.calls.Call.{Call as Kept}
use Rattle.run_report.specs.declared.calls.Call.TheVariants as calls
use Rattle.run_report.specs.declared.records.LibReport.{LibReport}
use Rattle.run_report.specs.declared.records.RunRecord.{RunRecord}
use Rattle.session_book.specs.Moments.{TimedRuns}
use Rattle.session_book.specs.Runs.{Handled, IsInside, TellRuns}
use Rattle.session_book.specs.Sends.{HasSend, sent_at}
use Rattle.session_book.specs.Spells.{Spell, placed_from, spell_items, spells_behind}
use Rattle.session_book.specs.Texts.{outbound_text}
use Rattle.session_core.specs.declared.names.Names.{Names}
use Rattle.switchboard.specs.Brought.{good_bodies}

-- What a record has of its sessions, in the order of their numbers.
abbrev pub sessions_of : RunRecord → List SessionLeft
sessions_of left = map left_in left.engine.sessions

-- session s is this one
abbrev pub HasSession : RunRecord → ℕ → SessionLeft → Type 0
HasSession left s session = slice_get (sessions_of left) s ≡ Some session

-- so it is of each session
abbrev pub EachSession : RunRecord → (ℕ → SessionLeft → Type 0) → Type 0
EachSession left P = (s : ℕ) (session : SessionLeft) → HasSession left s session → P s session

-- The number of the connection at a place of the record. The accepted ones are numbered from 0 on, in the order in which they came, and behind them the dialled
-- ones from their first number on.
abbrev pub number_at : RunRecord → ℕ → ℕ
number_at left place = if nat_lt place left.engine.accepted then place else FIRST_DIALLED + (place - left.engine.accepted)

-- so it is of each connection, by its place
abbrev pub EachConnection : RunRecord → (ℕ → ConnRecord → Type 0) → Type 0
EachConnection left P = (place : ℕ) (c : ConnRecord) → slice_get left.engine.connections place ≡ Some c → P place c

-- The record has a connection of this number, and that is a connection of session s.
pub record HasConnection (left : RunRecord) (s number : ℕ) : Type 0 where
  pub place : ℕ
  pub c : ConnRecord
  pub at : slice_get left.engine.connections place ≡ Some c
  pub number_is : number_at left place ≡ number
  pub names : c.session ≡ Some s

-- so it is of each library, whose number is the one behind its place
abbrev pub EachLibrary : RunRecord → (LibReport → Type 0) → Type 0
EachLibrary left P = (place : ℕ) (report : LibReport) → slice_get left.libraries place ≡ Some report → (report.number ≡ place + 1) × P report

-- The sessions and libraries are those that are configured.
pub record AreConfigured (config : Config) (left : RunRecord) : Type 0 where
  pub count : length left.engine.sessions ≡ length config.names
  pub names : EachSession left (λ s session. session.names ≡ names_of config s)
  pub leases : EachSession left (λ s session. session.leases ≡ config.leases)
  pub libraries : length left.libraries ≡ config.libraries

-- The connections are numbered: so many were accepted, the others were dialled, and no two have one number.
pub record AreNumbered (left : RunRecord) : Type 0 where
  pub accepted : left.engine.accepted ≤ length left.engine.connections
  pub apart : (j k : ℕ) → j < length left.engine.connections → k < length left.engine.connections → number_at left j ≡ number_at left k → j ≡ k

-- Lawful run. Each entry of a session's journal is the step of the registry on one thread behind the entries before it, and no hold is missing.
pub record IsLawfulRun (session : SessionLeft) : Type 0 where
  pub run : IsRun session.leases session.entries
  pub settled : owes_hold (state_of session.entries).latest ≡ false

-- One owner. A lease is given only when the one before it has ended, and there aren't more of them than can be.
pub record HasOneOwner (session : SessionLeft) : Type 0 where
  pub one : OnlyLastRuns (state_of session.entries).leases
  pub few : length (state_of session.entries).leases ≤ session.leases

-- Logs as the journal tells. The inbound log has as many messages as the journal has arrivals, and each series of the outbound log as many as it has numbers.
pub record HasLogsTold (session : SessionLeft) : Type 0 where
  pub inbound : length session.inbound ≡ (state_of session.entries).inbound
  pub outbound : map (λ entries. length entries) session.outbound ≡ (state_of session.entries).series

-- Adjoining holdings. What the owners held, by the entries alone, cuts the inbound log into intervals: the engine's first, from 0 on, each where the one before
-- ends, engine and libraries in turn, and the last up to the log's end.
abbrev pub HoldingsAdjoin : SessionLeft → Type 0
HoldingsAdjoin session = AreAdjoining (holdings_of session.entries) (length session.inbound)

-- Garbled. These pieces were handed out of a connection: they begin the cut of all bytes that were taken of it, and are all of it unless a message ended the
-- connection. The garbled ones among them are counted.
pub record AreHandedOut (c : ConnRecord) (pieces : List CutPiece) : Type 0 where
  pub begin : Begins pieces (cut LONGEST_FRAME c.taken).pieces
  pub whole : StandsOrEndedFromOutside c.cause → pieces ≡ (cut LONGEST_FRAME c.taken).pieces
  pub garbled : c.garbled ≡ sum_by garbled_in pieces

-- Of a connection that no session was bound to, at most one message was handed out: the one for which it was refused.
pub record IsCutUp (c : ConnRecord) : Type 0 where
  pub pieces : List CutPiece
  pub handed_out : AreHandedOut c pieces
  pub few : c.session ≡ None → length (good_bodies pieces) ≤ 1
  pub none : c.session ≡ None → c.cause ≡ None → good_bodies pieces ≡ []

-- These are the messages that session s handled of one of its connections: the good ones among the pieces that were handed out of it.
pub record IsHandledOf (left : RunRecord) (s : ℕ) (h : Handled) : Type 0 where
  pub connection : HasConnection left s h.connection
  pub pieces : List CutPiece
  pub handed_out : AreHandedOut connection.c pieces
  pub good : h.bodies ≡ good_bodies pieces

-- Acts of the handled pieces. A session handled these connections, one behind another, each of its connections once. Between the Bind of a connection and its
-- Leave the journal, but for what leases and the clock did, tells with the logs the acts of the session machine on the messages that were handled of it, each
-- act by one entry and in order; and no such entry stands outside. A Heartbeat that answers no TestRequest stands where nothing was sent on its connection
-- for HeartBtInt.
pub record TellsItsActs (config : Config) (left : RunRecord) (s : ℕ) (session : SessionLeft) : Type 0 where
  pub handled : List Handled
  pub each : All (IsHandledOf left s) handled
  pub once : AllPairs (λ one later. one.connection ≢ later.connection) handled
  pub all : EachConnection left (λ place c. c.session ≡ Some s → Contains (map (λ h. h.connection) handled) (number_at left place))
  pub told : TellRuns session.inbound session.outbound (first_machines config s) handled (spells_behind [] session.entries)
  pub inside : All IsInside (placed_from (state_of []) session.entries)
  pub heartbeats : TimedRuns session.outbound (first_machines config s) handled (spells_behind [] session.entries)

-- Bound while standing. The connection to which a session's journal leaves it bound stands and names it,
abbrev pub IsBoundToStanding : RunRecord → ℕ → SessionLeft → Type 0
IsBoundToStanding left s session = (number : ℕ) → (state_of session.entries).bound ≡ Some number → (has : HasConnection left s number) × (has.c.cause ≡ None)

-- and a connection that stands and names a session is the one to which that session's journal leaves it bound.
pub record IsBoundIn (left : RunRecord) (s number : ℕ) : Type 0 where
  pub session : SessionLeft
  pub has : HasSession left s session
  pub bound : (state_of session.entries).bound ≡ Some number

abbrev pub IsBoundWhileStanding : RunRecord → ℕ → ConnRecord → Type 0
IsBoundWhileStanding left place c = (s : ℕ) → c.session ≡ Some s → c.cause ≡ None → IsBoundIn left s (number_at left place)

-- the names of a session, as what is written wants them
abbrev pub written_names : Names → Names2
written_names names = record { us = names.us; them = names.them }

-- the outbound text of a connection, in the words of its session's journal and log: a frame for each item that is numbered between its Bind and its Leave
abbrev pub text_in : SessionLeft → Spell → List ℕ
text_in session spell = outbound_text (written_names session.names) session.outbound spell

-- the frame of its first item
abbrev pub first_in : SessionLeft → Spell → List ℕ
first_in session spell = text_of (written_names session.names) session.outbound (take 1 (spell_items session.outbound spell))

-- The writing of a connection was cut short: the wire counted that a write of it failed, or that one was blocked, or as many bytes were written as a turn
-- writes at most, or more.
abbrev pub IsCutOff : Link → ConnRecord → Type 0
IsCutOff link c = (0 < link.write_faults) ⊎ ((0 < link.write_blocks) ⊎ (MOST_WRITTEN ≤ length c.written))

-- An accepted connection that ended took its text whole, unless its writing was cut short. A dialled one took it whole, or the frame of its first item alone.
pub record IsTaken (left : RunRecord) (links : ℕ → Link) (place : ℕ) (c : ConnRecord) (text first : List ℕ) : Type 0 where
  pub accepted : place < left.engine.accepted → (c.written ≡ text) ⊎ IsCutOff (links (number_at left place)) c
  pub dialled : left.engine.accepted ≤ place → ((c.written ≡ text) ⊎ (c.written ≡ first)) ⊎ IsCutOff (links (number_at left place)) c

-- Outbound text. The journal of the connection's session tells a spell of this connection; what was written begins its text; and a connection that ended took
-- that whole, or was cut off as said.
pub record TookText (left : RunRecord) (links : ℕ → Link) (place : ℕ) (c : ConnRecord) (session : SessionLeft) : Type 0 where
  pub spell : Spell
  pub told : Contains (spells_behind [] session.entries) spell
  pub connection : spell.connection ≡ number_at left place
  pub begins : Begins c.written (text_in session spell)
  pub ended : c.cause ≢ None → IsTaken left links place c (text_in session spell) (first_in session spell)

-- where a connection names no session, nothing was written of it
pub record TookItsText (left : RunRecord) (links : ℕ → Link) (place : ℕ) (c : ConnRecord) : Type 0 where
  pub named : (s : ℕ) → c.session ≡ Some s → (session : SessionLeft) × (HasSession left s session × TookText left links place c session)
  pub unnamed : c.session ≡ None → c.written ≡ []

-- Logons of dialled connections. A session logs on by each connection that it dialled.
abbrev pub LogsOnByIt : Config → (ℕ → Link) → RunRecord → ℕ → SessionLeft → Handled → Type 0
LogsOnByIt config links left s session h =
    (has : HasConnection left s h.connection) → left.engine.accepted ≤ has.place
    → LogsOn (first_machines config s) (spells_behind [] session.entries) session.outbound (text_in session) (first_in session) h has.c (IsCutOff (links h.connection) has.c)

-- A reply of session s to a library is told by that session's journal; and that of a session which isn't configured by a stray.
pub record IsReplyTold (left : RunRecord) (library s : ℕ) (reply : Notice) : Type 0 where
  pub journal : (session : SessionLeft) → HasSession left s session → Contains (replies_told library s session.entries) reply
  pub stray : length left.engine.sessions ≤ s → Contains (flat_map (stray_told library) left.engine.strays) reply

-- A notice is told: a reply by the journal or by a stray, and a message by the inbound log, which has it at its position.
abbrev pub IsTold : RunRecord → ℕ → Notice → Type 0
IsTold left library (notices.Granted nr s lease from start) = IsReplyTold left library s (notices.Granted nr s lease from start)
IsTold left library (notices.Refused nr s why) = IsReplyTold left library s (notices.Refused nr s why)
IsTold left library (notices.Message s lease pos bytes) = (session : SessionLeft) × (HasSession left s session × (slice_get session.inbound pos ≡ Some bytes))

-- Prefix reads. Of each lease of each session the messages that a library's polls gave have the positions from that on which the journal's grant names, one
-- behind another without a gap, and each lies below the end of what the library held by the lease; and all that polls handed on is told.
pub record ReadsPrefixes (left : RunRecord) (report : LibReport) : Type 0 where
  pub reads : EachSession left (λ s session. (lease : ℕ) → 0 < lease → (positions_kept s lease report.calls ≡ [])
      ⊎ AreFromGrant (replies_told report.number s session.entries) s lease (positions_kept s lease report.calls))
  pub told : All (HandsOn (IsTold left report.number)) report.calls
  pub within : All (HandsOn (IsWithinHolding (sessions_of left) report.number)) report.calls

-- Every reply. The requests of a library that got a number have 1, 2 and so on. It heard these notices, among which is all that its polls handed on. The replies
-- among them are to its first requests, each once and in order, by number and session, and at most the last request has none. Those of each session are the
-- first that its journal tells the library, in order, and those of no session the first of its strays.
pub record IsRepliedTo (left : RunRecord) (report : LibReport) : Type 0 where
  pub heard : List Notice
  pub handed_on : All (HandsOn (Contains heard)) report.calls
  pub numbers : map (λ (ask : Ask). ask.nr) (asks_kept report.calls) ≡ numbers_to (length (asks_kept report.calls))
  pub answers : Begins (flat_map answered_by heard) (asks_kept report.calls)
  pub at_most_one_open : length (asks_kept report.calls) ≤ length (flat_map answered_by heard) + 1
  pub replies : EachSession left (λ s session. Begins (flat_map (reply_of s) heard) (replies_told report.number s session.entries))
  pub strays : Begins (flat_map (stray_reply (length left.engine.sessions)) heard) (flat_map (stray_told report.number) left.engine.strays)

-- the entries that a session's outbound log has for the sends of a library, in the order of its journal
abbrev pub sends_of : ℕ → SessionLeft → List OutEntry
sends_of library session = flat_map (sent_at library session.outbound) (placed_from (state_of []) session.entries)

-- where a call gave a lease back, that lease of its session stands so in the journal
abbrev pub IsGivenBackIn : RunRecord → ℕ → ℕ → ℕ → ℕ → ℕ → Type 0
IsGivenBackIn left library s lease count heir = (session : SessionLeft) → HasSession left s session → IsGivenBack (lines_of session.entries) library lease count heir

abbrev pub GivesBack : RunRecord → ℕ → Kept → Type 0
GivesBack left library (calls.Release s (Ok released)) = IsGivenBackIn left library s released.lease released.count 0
GivesBack left library (calls.Hand s heir (Ok released)) = IsGivenBackIn left library s released.lease released.count heir
GivesBack left library (calls.Release s (Err why)) = Unit {0}
GivesBack left library (calls.Hand s heir (Err why)) = Unit {0}
GivesBack left library (calls.Poll event) = Unit {0}
GivesBack left library (calls.Send s body answer) = Unit {0}
GivesBack left library (calls.Request s from answer) = Unit {0}
GivesBack left library calls.Beat = Unit {0}

-- Every send. What the outbound log of a session has for the sends of a library are the bodies of its calls that were answered Sent, each once and in order,
-- and no others; and each lease that it gave back stands so in the journal, with as many sends. The sends and releases of the journal that are this library's are,
-- in order and each once, its calls that were answered Sent and Released, with the same lease, ordinal, body, count and heir; so a send that was answered Lost has
-- no entry. The word by which a call found a lease lost is shown by the journal.
pub record IsSent (left : RunRecord) (report : LibReport) : Type 0 where
  pub logged : EachSession left (λ s session. All (HasSend session.outbound) (placed_from (state_of []) session.entries))
  pub bodies : EachSession left (λ s session. logged_bodies (sends_of report.number session) ≡ map (λ post. post.body) (posts_kept s report.calls))
  pub given_back : All (GivesBack left report.number) report.calls
  pub deeds : EachSession left (DidAsAnswered report)
  pub lost : EachSession left (LostAsShown report)

-- Strays. A stray of a library of the record is for a session that isn't configured.
pub record IsStray (left : RunRecord) (stray : Stray) : Type 0 where
  pub unknown : 1 ≤ stray.library → stray.library ≤ length left.libraries → length left.engine.sessions ≤ stray.s

-- The headline.
pub record Headline (config : Config) (links : ℕ → Link) (left : RunRecord) : Type 0 where
  pub configured : AreConfigured config left
  pub numbered : AreNumbered left
  pub lawful_run : EachSession left (λ s session. IsLawfulRun session)
  pub one_owner : EachSession left (λ s session. HasOneOwner session)
  pub logs_told : EachSession left (λ s session. HasLogsTold session)
  pub adjoining_holdings : EachSession left (λ s session. HoldingsAdjoin session)
  pub acts : EachSession left (λ s session. TellsItsActs config left s session)
  pub logons : (s : ℕ) (session : SessionLeft) (has : HasSession left s session) → All (LogsOnByIt config links left s session) (acts s session has).handled
  pub garbled : EachConnection left (λ place c. IsCutUp c)
  pub bound : EachSession left (λ s session. IsBoundToStanding left s session)
  pub standing : EachConnection left (λ place c. IsBoundWhileStanding left place c)
  pub outbound_text : EachConnection left (λ place c. TookItsText left links place c)
  pub prefix_reads : EachLibrary left (λ report. ReadsPrefixes left report)
  pub every_reply : EachLibrary left (λ report. IsRepliedTo left report)
  pub every_send : EachLibrary left (λ report. IsSent left report)
  pub strays : All (IsStray left) left.engine.strays
