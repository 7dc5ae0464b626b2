-- The engine of a run that is served, between two turns.
use Rattle.std.specs.Prelude.{ℕ, List}
use Rattle.lease_core.specs.declared.entry.Entry.{Entry}
use Rattle.headline.specs.runs.Accounted.{IsAccountedAt}
use Rattle.serve_run.specs.Drives.{Drive}
use Rattle.session_core.specs.State.{State}
use Rattle.engine_laws.specs.texts.Taken.{TookTheirTexts}

-- The engine is accounted for up to the moment of its last turn, and its connections that have ended took their texts.
pub record IsAccountedDrive (before : ℕ → List Entry) (start : ℕ → State) (drive : Drive) : Type 0 where
  pub engine : IsAccountedAt before start drive.at.engine.moment drive.at.engine.sessions
  pub texts : TookTheirTexts drive.at.engine.sessions.desk.board drive.at.links
