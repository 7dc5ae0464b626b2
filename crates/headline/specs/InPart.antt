-- What holds of the record of a run for which memory was wanting, in the words of the record alone and of its configuration.
use Rattle.std.specs.Prelude.{◌≡◌, ◌≢◌, ◌⊎◌, ℕ, ◌+◌, ◌-◌, ◌≤◌, nat_lt, if◌then◌else◌, List, [], ◌∷◌, ◌++◌, length, slice_get, None, Some}
use Rattle.std.specs.List.{All, AllPairs}
use Rattle.connection_core.specs.declared.records.ConnRecord.{ConnRecord}
use Rattle.engine_config.specs.Config.{names_of}
use Rattle.engine_config.specs.declared.config.Config.{Config}
use Rattle.engine_end.specs.Records.{SessionLeft}
use Rattle.fix_frame.specs.Cut.{CutPiece, cut}
use Rattle.fix_frame.specs.declared.layout.TheConstants.{LONGEST_FRAME}
use Rattle.gate_io.specs.declared.wires.TheConstants.{FIRST_DIALLED}
use Rattle.headline.specs.Headline.{EachSession, HasSession}
use Rattle.lease_core.specs.State.{state_of}
use Rattle.headline.specs.runs.Accounted.{first_machines}
use Rattle.headline.specs.runs.Sides.{Begins}
use Rattle.run_report.specs.declared.records.RunRecord.{RunRecord}
pub use Rattle.script_run.specs.Stops.{MeansInPart}
pub use Rattle.serve_run.specs.Stops.{ServesInPart}
use Rattle.session_book.specs.Runs.{Handled, IsInside, TellEach, TellRuns, bodies_of}
use Rattle.session_book.specs.Spells.{Spell, act_entries, placed_from, spells_behind}
use Rattle.session_core.specs.Runs.{after_connections, connection_acts}
use Rattle.session_core.specs.declared.acts.Act.{Act}
use Rattle.switchboard.specs.Brought.{good_bodies}

-- The number of the connection at a place of the record, of which so many were accepted: those from 0 on, and behind them the dialled ones from their first number on.
abbrev pub number_among : ℕ → ℕ → ℕ
number_among accepted place = if nat_lt place accepted then place else FIRST_DIALLED + (place - accepted)

-- What a session handled of a connection of the record: the good messages, but for one at most that was handed out last, among the pieces that begin the cut of all bytes that
-- were taken of it. The connection names the session, or none, where memory was wanting in the bind.
pub record IsHandledSoFar (left : RunRecord) (accepted s : ℕ) (h : Handled) : Type 0 where
  pub place : ℕ
  pub c : ConnRecord
  pub at : slice_get left.engine.connections place ≡ Some c
  pub number_is : number_among accepted place ≡ h.connection
  pub names : (c.session ≡ Some s) ⊎ (c.session ≡ None)
  pub pieces : List CutPiece
  pub begin : Begins pieces (cut LONGEST_FRAME c.taken).pieces
  pub good : Begins h.bodies (good_bodies pieces)
  pub few : length good.rest ≤ 1

-- The journal tells with the logs all acts on what was handled, each in the spell of its connection; and no such entry stands outside.
pub record TellsAll (config : Config) (s : ℕ) (session : SessionLeft) (handled : List Handled) : Type 0 where
  pub told : TellRuns session.inbound session.outbound (first_machines config s) handled (spells_behind [] session.entries)
  pub inside : All IsInside (placed_from (state_of []) session.entries)

-- Or it tells all acts on what was handled of these connections but the last one, and of that a beginning of its acts.
pub record TellsBeginning (config : Config) (s : ℕ) (session : SessionLeft) (handled : List Handled) : Type 0 where
  pub past : List Handled
  pub last : Handled
  pub handled_are : handled ≡ past ++ last ∷ []
  pub front : List Spell
  pub spell : Spell
  pub spells : spells_behind [] session.entries ≡ front ++ spell ∷ []
  pub told : TellRuns session.inbound session.outbound (first_machines config s) past front
  pub connection : spell.connection ≡ last.connection
  pub done : List Act
  pub left : List Act
  pub acts_are : connection_acts (after_connections (first_machines config s) (bodies_of past)) last.bodies ≡ done ++ left
  pub begun : TellEach session.inbound session.outbound done (act_entries session.outbound spell)

-- Acts so far. A session handled these connections, one behind another, each of its connections once. Its journal tells with the logs the acts of the session machine on
-- the messages that were handled of them, each act by one entry and in order: all, or of the last connection a beginning.
pub record TellsActsSoFar (config : Config) (left : RunRecord) (accepted s : ℕ) (session : SessionLeft) (handled : List Handled) : Type 0 where
  pub each : All (IsHandledSoFar left accepted s) handled
  pub once : AllPairs (λ one later. one.connection ≢ later.connection) handled
  pub told : TellsAll config s session handled ⊎ TellsBeginning config s session handled

-- The headline of a run for which memory was wanting once it had begun: the record has every configured session, with its names and its leases. Each session handled so much,
-- and tells its acts on that so far: all of them, but for one session at most. So many of the connections were accepted.
pub record HeadlineInPart (config : Config) (left : RunRecord) : Type 0 where
  pub count : length left.engine.sessions ≡ length config.names
  pub names : EachSession left (λ s session. session.names ≡ names_of config s)
  pub leases : EachSession left (λ s session. session.leases ≡ config.leases)
  pub libraries : length left.libraries ≤ config.libraries
  pub accepted : ℕ
  pub few : accepted ≤ length left.engine.connections
  pub handled : ℕ → List Handled
  pub acts : EachSession left (λ s session. TellsActsSoFar config left accepted s session (handled s))
  pub one : (s t : ℕ) (session other : SessionLeft) → HasSession left s session → HasSession left t other → s ≢ t → TellsAll config s session (handled s) ⊎ TellsAll config t other (handled t)
