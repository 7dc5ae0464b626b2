-- A library's plan, as a script has it.
use Rattle.std.specs.Prelude.{◌≡◌, ◌==◌, ℕ, ◌+◌, List, slice_get, Some}
use Rattle.std.specs.List.{filter}
pub use Rattle.plan_runner.specs.Plans.{CarriesLineAt, CarriesLines, PlanStands, first_stage}
use Rattle.script_text.specs.declared.steps.Step.{Step}
use Rattle.script_text.specs.declared.steps.Step.TheVariants as step

-- the library whose line a step is, or 0
abbrev pub library_of : Step → ℕ
library_of (step.Lib library what) = library
library_of (step.At now) = 0
library_of step.Connect = 0
library_of step.Take = 0
library_of (step.Bytes c bytes) = 0
library_of (step.Frame c body) = 0
library_of (step.Finish c) = 0
library_of (step.FailRead c) = 0
library_of (step.FailWrite c n) = 0
library_of (step.Block c n) = 0
library_of (step.Unblock c) = 0
library_of step.Turn = 0

-- A library's plan: its lines of a script, in their order.
abbrev pub plan_of : ℕ → List Step → List Step
plan_of number steps = filter (λ step. library_of step == number) steps
