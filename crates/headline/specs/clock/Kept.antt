-- A record over whose run the clock told these readings.
use Rattle.std.specs.Prelude.{ℕ, min, List, ◌∷◌}
use Rattle.std.specs.List.{All}
use Rattle.headline.specs.clock.TakenBack.{TimedOutInTime}
use Rattle.headline.specs.clock.Waited.{EndedInTime}
use Rattle.engine_config.specs.declared.config.Config.{Config}
use Rattle.gate_io.specs.Clock.{greatest_of}
use Rattle.gate_io.specs.declared.clocks.TheConstants.{LAST_MOMENT}
use Rattle.headline.specs.runs.Accounted.{first_machines}
use Rattle.run_report.specs.declared.records.RunRecord.{RunRecord}

-- a reading of the clock as a moment, no later than the last one
abbrev pub moment_at : ℕ → ℕ
moment_at reading = min reading LAST_MOMENT

-- What the record tells of silence the clock bears out, from the first reading on, up to the greatest.
pub record KeepsTime (config : Config) (reading : ℕ) (readings : List ℕ) (left : RunRecord) : Type 0 where
  -- Where a connection ended since nothing came, the clock goes on in the run for at least as long as it is waited for.
  pub silent : All (EndedInTime (first_machines config) (moment_at reading) (moment_at (greatest_of (reading ∷ readings)))) left.engine.connections
  -- Where a lease was taken back for its library's silence, it goes on for at least as long as a library may be silent.
  pub timeouts : All (TimedOutInTime (moment_at reading) (moment_at (greatest_of (reading ∷ readings))) config.timeout) left.engine.sessions
