-- Wrong records of runs for which memory was wanting: each of these families is of records that are wrong in one way, whatever else they have.
use Rattle.std.specs.Prelude.{◌≡◌, ◌≢◌, ℕ, List, [], ◌∷◌, length, Some}
use Rattle.connection_core.specs.declared.records.ConnRecord.{ConnRecord}
use Rattle.engine_config.specs.Config.{names_of}
use Rattle.engine_config.specs.declared.config.Config.{Config}
use Rattle.engine_end.specs.Records.{SessionLeft}
use Rattle.headline.specs.Headline.{EachConnection, HasSession}
use Rattle.headline.specs.InPart.{HeadlineInPart}
use Rattle.lease_core.specs.State.{State as Totals}
use Rattle.lease_core.specs.declared.entry.Entry.TheVariants.{Arrive, Bind}
use Rattle.headline.specs.runs.Accounted.{first_machines}
use Rattle.run_report.specs.declared.records.RunRecord.{RunRecord}
use Rattle.session_book.specs.Spells.{Placed, Spell, act_entries, placed, spells_behind}

-- the headline in part holds of no record of which this is so
abbrev pub IsRefutedInPart : (Config → RunRecord → Type 0) → Type 0
IsRefutedInPart IsWrong = (config : Config) (left : RunRecord) → IsWrong config left → HeadlineInPart config left → ⊥

-- A configured session is missing, or there is another one.
abbrev pub MissesSession : Config → RunRecord → Type 0
MissesSession config left = length left.engine.sessions ≢ length config.names

-- A session has another's names.
pub record HasOtherNames (config : Config) (left : RunRecord) : Type 0 where
  pub s : ℕ
  pub session : SessionLeft
  pub has : HasSession left s session
  pub other : session.names ≢ names_of config s

-- A session's journal binds it, and there was no connection.
pub record BindsNoConnection (left : RunRecord) : Type 0 where
  pub s : ℕ
  pub session : SessionLeft
  pub has : HasSession left s session
  pub spell : Spell
  pub later : List Spell
  pub spells : spells_behind [] session.entries ≡ spell ∷ later
  pub none : left.engine.connections ≡ []

-- On the first connection of a session's journal a message arrived, and on no connection anything came.
pub record TellsWhatNeverCame (left : RunRecord) : Type 0 where
  pub s : ℕ
  pub session : SessionLeft
  pub has : HasSession left s session
  pub spell : Spell
  pub later : List Spell
  pub spells : spells_behind [] session.entries ≡ spell ∷ later
  pub before : Totals
  pub position : ℕ
  pub more : List Placed
  pub arrives : act_entries session.outbound spell ≡ placed before (Arrive position) ∷ more
  pub nothing : EachConnection left (λ place (c : ConnRecord). c.taken ≡ [])

-- a session that dials was bound, and didn't log on
pub record DidNotLogOn (config : Config) (left : RunRecord) (s : ℕ) : Type 0 where
  pub session : SessionLeft
  pub has : HasSession left s session
  pub number : ℕ
  pub entries : session.entries ≡ Bind number ∷ []
  pub heart : ℕ
  pub dials : (first_machines config s).dials ≡ Some heart

-- Two sessions that dial were bound, and neither logged on, as if memory had been wanting twice.
pub record StopsTwice (config : Config) (left : RunRecord) : Type 0 where
  pub s : ℕ
  pub t : ℕ
  pub apart : s ≢ t
  pub one : DidNotLogOn config left s
  pub other : DidNotLogOn config left t
