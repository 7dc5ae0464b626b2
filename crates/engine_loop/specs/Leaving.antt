-- What an engine leaves for which memory was wanting.
use Rattle.std.specs.Prelude.{◌≡◌, ◌⊎◌, ℕ, false, List}
use Rattle.engine_end.specs.Finishing.{GathersAll, GathersSome, after_settling}
use Rattle.engine_end.specs.Records.{IsLeftBy}
use Rattle.engine_end.specs.declared.records.EngineRecord.{EngineRecord}
use Rattle.engine_loop.specs.Engines.{until_of}
use Rattle.engine_loop.specs.declared.engine.Engine.{Engine}
use Rattle.lease_core.specs.declared.record.Record.{Record}
use Rattle.lease_desk.specs.declared.desk.LeaseDesk.{LeaseDesk}
use Rattle.lease_words.specs.Views.{LibraryView}

-- each session is gathered, or some are, or none is
abbrev pub GathersInPart : ℕ → ℕ → LeaseDesk → LeaseDesk → Type 0
GathersInPart at until old new = (new ≡ old) ⊎ (GathersAll at until old new ⊎ GathersSome at until old new)

-- What an engine leaves for which memory was wanting: its sessions and connections as they stood; or, where it wasn't in the midst of a turn, with its libraries'
-- seats taken in, and as many sessions gathered once more as there was memory for.
pub record LeavesAsItStood (seats : List LibraryView) (engine : Engine) (left : EngineRecord) : Type 0 where
  pub gathered : LeaseDesk
  pub gathers : (gathered ≡ engine.sessions.desk) ⊎ ((engine.failed ≡ false) × GathersInPart engine.moment (until_of engine) (after_settling seats engine.sessions.desk) gathered)
  pub added : List Record
  pub leaves : IsLeftBy gathered.board engine.sessions.strays.items engine.accepted added left
