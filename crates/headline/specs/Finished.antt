-- A run that came to its end.
use Rattle.std.specs.Prelude.{◌≡◌, ◌≢◌, ℕ, ◌+◌, true, length, None}
use Rattle.std.specs.List.{All}
use Rattle.headline.specs.Headline.{EachConnection}
use Rattle.run_report.specs.declared.records.RunRecord.{RunRecord}

-- Nothing is left to wait for: so many connections were accepted, all others are dials, of which there are so many, each has ended, and each library carried out
-- its plan.
pub record IsFinished (connections dials : ℕ) (left : RunRecord) : Type 0 where
  pub accepted : left.engine.accepted ≡ connections
  pub came : length left.engine.connections ≡ connections + dials
  pub ended : EachConnection left (λ place c. c.cause ≢ None)
  pub plans : All (λ report. report.finished ≡ true) left.libraries
