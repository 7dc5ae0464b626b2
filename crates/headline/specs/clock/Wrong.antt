-- Families of wrong records, each of which the clock refutes.
use Rattle.std.specs.Prelude.{◌≡◌, ℕ, ◌+◌, ◌<◌, ◌≤◌, List, ◌∷◌, None, Some}
use Rattle.std.specs.List.{Contains}
use Rattle.headline.specs.clock.Kept.{KeepsTime, moment_at}
use Rattle.connection_core.specs.declared.limits.TheConstants.{LOGON_WAIT}
use Rattle.connection_core.specs.declared.records.ConnRecord.{ConnRecord}
use Rattle.engine_config.specs.declared.config.Config.{Config}
use Rattle.gate_io.specs.Clock.{greatest_of}
use Rattle.lease_core.specs.declared.entry.Entry.TheVariants.{Timeout}
use Rattle.run_report.specs.declared.records.RunRecord.{RunRecord}
use Rattle.session_book.specs.declared.reads.SessionRecord.{SessionRecord}
use Rattle.session_core.specs.declared.causes.Cause.TheVariants.{Silent}

-- a connection of the record ended since nothing came from this moment on
pub record HasSilent (left : RunRecord) (since : ℕ) (c : ConnRecord) : Type 0 where
  pub there : Contains left.engine.connections c
  pub ended : c.cause ≡ Some (Silent since)

-- such a one is there, and no reading was greater than the first
pub record StandsStill (reading : ℕ) (readings : List ℕ) (left : RunRecord) : Type 0 where
  pub since : ℕ
  pub c : ConnRecord
  pub silent : HasSilent left since c
  pub still : greatest_of (reading ∷ readings) ≡ reading

-- it is told that nothing came from a moment on that lies before the first reading
pub record IsSilentBefore (reading : ℕ) (readings : List ℕ) (left : RunRecord) : Type 0 where
  pub since : ℕ
  pub c : ConnRecord
  pub silent : HasSilent left since c
  pub before : since < moment_at reading

-- it names no session, and the clock hadn't gone on for as long as a Logon may take
pub record IsCutOffEarly (reading : ℕ) (readings : List ℕ) (left : RunRecord) : Type 0 where
  pub since : ℕ
  pub c : ConnRecord
  pub silent : HasSilent left since c
  pub unbound : c.session ≡ None
  pub early : moment_at (greatest_of (reading ∷ readings)) < moment_at reading + LOGON_WAIT

-- a session of the record has a lease that was taken back for its library's silence
pub record HasTimeout (left : RunRecord) : Type 0 where
  pub session : SessionRecord
  pub lease : ℕ
  pub library : ℕ
  pub count : ℕ
  pub there : Contains left.engine.sessions session
  pub told : Contains session.registry.entries (Timeout lease library count)

-- such a session is there, no reading was greater than the first, and a library may be silent for some time
pub record IsTakenBackAtOnce (config : Config) (reading : ℕ) (readings : List ℕ) (left : RunRecord) : Type 0 where
  pub taken_back : HasTimeout left
  pub still : greatest_of (reading ∷ readings) ≡ reading
  pub some : 1 ≤ config.timeout

-- such a session is there, and the clock hadn't gone on for as long as a library may be silent
pub record IsTakenBackEarly (config : Config) (reading : ℕ) (readings : List ℕ) (left : RunRecord) : Type 0 where
  pub taken_back : HasTimeout left
  pub early : moment_at (greatest_of (reading ∷ readings)) < moment_at reading + config.timeout

-- no record of the family keeps time
abbrev pub IsRefuted : (ℕ → List ℕ → RunRecord → Type 0) → Type 0
IsRefuted Family = (config : Config) (reading : ℕ) (readings : List ℕ) (left : RunRecord) → Family reading readings left → KeepsTime config reading readings left → ⊥

-- nor does one of a family that speaks of what is configured
abbrev pub IsRefutedWith : (Config → ℕ → List ℕ → RunRecord → Type 0) → Type 0
IsRefutedWith Family = (config : Config) (reading : ℕ) (readings : List ℕ) (left : RunRecord) → Family config reading readings left → KeepsTime config reading readings left → ⊥
