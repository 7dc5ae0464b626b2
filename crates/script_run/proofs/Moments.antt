-- The first moment that a script sets is one of the gateway's.
use Rattle.std.proofs.Common.{◌≡◌, ℕ, ◌≤◌, false, List, [], ◌∷◌, arith}
use Rattle.gate_io.specs.declared.clocks.TheConstants.{LAST_MOMENT}
use Rattle.script_run.specs.Means.{first_moment}
use Rattle.script_text.specs.Lawful.{StepsFit}
use Rattle.script_text.specs.SoFar.{moment_with, numbers_with}
use Rattle.script_text.specs.declared.numbers.NextNumbers.{NextNumbers}
use Rattle.script_text.specs.declared.steps.Step.{Step}
use Rattle.script_text.specs.declared.steps.Step.TheVariants as step

pub first_within : (libraries : ℕ) (next : NextNumbers) (present : ℕ) (steps : List Step) → StepsFit false libraries next present steps → first_moment steps ≤ LAST_MOMENT
first_within libraries next present [] fit = omega arith
first_within libraries next present (step.At moment ∷ steps) fit = fit.0.2
first_within libraries next present (step.Connect ∷ steps) fit = first_within libraries (numbers_with step.Connect next) (moment_with step.Connect present) steps fit.1
first_within libraries next present (step.Take ∷ steps) fit = first_within libraries (numbers_with step.Take next) (moment_with step.Take present) steps fit.1
first_within libraries next present (step.Bytes c bytes ∷ steps) fit = first_within libraries (numbers_with (step.Bytes c bytes) next) (moment_with (step.Bytes c bytes) present) steps fit.1
first_within libraries next present (step.Frame c body ∷ steps) fit = first_within libraries (numbers_with (step.Frame c body) next) (moment_with (step.Frame c body) present) steps fit.1
first_within libraries next present (step.Finish c ∷ steps) fit = first_within libraries (numbers_with (step.Finish c) next) (moment_with (step.Finish c) present) steps fit.1
first_within libraries next present (step.FailRead c ∷ steps) fit = first_within libraries (numbers_with (step.FailRead c) next) (moment_with (step.FailRead c) present) steps fit.1
first_within libraries next present (step.FailWrite c after ∷ steps) fit = first_within libraries (numbers_with (step.FailWrite c after) next) (moment_with (step.FailWrite c after) present) steps fit.1
first_within libraries next present (step.Block c after ∷ steps) fit = first_within libraries (numbers_with (step.Block c after) next) (moment_with (step.Block c after) present) steps fit.1
first_within libraries next present (step.Unblock c ∷ steps) fit = first_within libraries (numbers_with (step.Unblock c) next) (moment_with (step.Unblock c) present) steps fit.1
first_within libraries next present (step.Turn ∷ steps) fit = first_within libraries (numbers_with step.Turn next) (moment_with step.Turn present) steps fit.1
first_within libraries next present (step.Lib library what ∷ steps) fit = first_within libraries (numbers_with (step.Lib library what) next) (moment_with (step.Lib library what) present) steps fit.1
