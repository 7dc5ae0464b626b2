-- How a library carries out its plan, and gives it up.
use Rattle.std.specs.Prelude.{◌≡◌, ℕ, zero, suc, ◌<◌, Bool, List, [], length, slice_get, Some}
use Rattle.library_api.specs.Known.{Known}
use Rattle.script_text.specs.declared.steps.LibStep.{LibStep}
use Rattle.script_text.specs.declared.steps.Step.{Step}
use Rattle.script_text.specs.declared.steps.Step.TheVariants as step
use Rattle.plan_runner.specs.Turns.{CarriesLine, StandsFor, Stage}

-- a library that reported no call yet
abbrev pub first_stage : Known → Stage
first_stage library = record { library = library; calls = []; left = 0 }

-- the line of a plan at a place
abbrev pub IsLineAt : ℕ → List Step → ℕ → LibStep → Type 0
IsLineAt number plan at line = slice_get plan at ≡ Some (step.Lib number line)

pub record CarriesLineAt (wide : Bool) (turns number : ℕ) (plan : List Step) (at : ℕ) (old new : Stage) : Type 0 where
  pub line : LibStep
  pub is : IsLineAt number plan at line
  pub carries : CarriesLine wide turns line old new

-- the first lines of a plan are carried out, in their order
abbrev pub CarriesLines : Bool → ℕ → ℕ → List Step → ℕ → Stage → Stage → Type 0
CarriesLines wide turns number plan zero old new = new ≡ old
CarriesLines wide turns number plan (suc n) old new = (mid : Stage) × CarriesLines wide turns number plan n old mid × CarriesLineAt wide turns number plan n mid new

-- the whole plan
abbrev pub CarriesPlan : Bool → ℕ → ℕ → List Step → Stage → Stage → Type 0
CarriesPlan wide turns number plan old new = CarriesLines wide turns number plan (length plan) old new

-- A line of a plan stands, behind those that are carried out: since its last reported call it had so many waiting turns.
pub record PlanStands (wide : Bool) (turns number : ℕ) (plan : List Step) (waits : ℕ) (old new : Stage) : Type 0 where
  pub at : ℕ
  pub line : LibStep
  pub is : IsLineAt number plan at line
  pub mid : Stage
  pub before : CarriesLines wide turns number plan at old mid
  pub stands : StandsFor wide turns line waits mid new

-- and fewer than those that give the plan up
pub record PlanStandsFew (wide : Bool) (turns number : ℕ) (plan : List Step) (old new : Stage) : Type 0 where
  pub waits : ℕ
  pub few : waits < turns
  pub stands : PlanStands wide turns number plan waits old new
