-- How long a library has waited at the line at which it gave its plan up.
use Rattle.std.specs.Prelude.{◌≡◌, ◌≤◌, ℕ, zero, suc, ◌+◌, min, true, List, [], ◌∷◌, ◌++◌}
use Rattle.library_api.specs.Waits.{Waits, most_waits}
use Rattle.library_api.specs.declared.waited.WaitKind.TheVariants as waits
use Rattle.run_report.specs.declared.calls.Call.{Call}
use Rattle.script_text.specs.declared.steps.Step.{Step}
use Rattle.plan_runner.specs.Calls.{StandCalls}
use Rattle.plan_runner.specs.Lines.{is_idle_poll, waits_by}

-- The report's calls are those up to a line that stands, and the library waited by that line's kind, in at least so many calls in a row.
pub record WaitsAtLine (turns number : ℕ) (plan : List Step) (reported : List Call) (waited : Waits) : Type 0 where
  pub stands : StandCalls number plan reported
  pub kind : waited.kind ≡ waits_by stands.calls.line
  pub count : turns ≤ waited.count

-- These calls end with so many polls that found nothing to take up.
abbrev pub EndsIdle : ℕ → List Call → Type 0
EndsIdle zero calls = Unit {0}
EndsIdle (suc n) calls = (before : List Call) × (last : Call) × (calls ≡ before ++ last ∷ []) × (is_idle_poll last ≡ true) × EndsIdle n before

-- A library that waits for an event has waited at least so many calls more than the idle polls with which its report ends, or as many as
-- are counted.
abbrev pub CountsIdle : ℕ → List Call → Waits → Type 0
CountsIdle turns calls waited = waited.kind ≡ waits.Event → (n : ℕ) → EndsIdle n calls → min (n + turns) most_waits ≤ waited.count
