-- What holds of each script that is read.
use Rattle.std.specs.Prelude.{◌≡◌, ℕ, suc, ◌+◌, ◌<◌, ◌≤◌, Bool, not, IsTrue, List, [], ◌∷◌, ◌++◌, length, All, Option, IfSome}
use Rattle.std.specs.List.{AllPairs}
use Rattle.engine_config.specs.Config.{IsConfig}
use Rattle.engine_config.specs.declared.config.Config.{Config}
use Rattle.engine_config.specs.declared.config.DialTo.{DialTo}
use Rattle.fix_frame.specs.Frame.{IsBody, frame_of}
use Rattle.fix_frame.specs.declared.layout.TheConstants.{LONGEST_FRAME}
use Rattle.gate_io.specs.declared.clocks.TheConstants.{LAST_MOMENT}
use Rattle.gate_io.specs.declared.wires.TheConstants.{FIRST_DIALLED, MOST_CONNECTIONS, MOST_DIALLED}
use Rattle.session_core.specs.declared.names.Names.{Names}
use Rattle.script_text.specs.SoFar.{first_numbers, moment_with, numbers_with}
use Rattle.script_text.specs.Words.{is_name}
use Rattle.script_text.specs.declared.limits.TheConstants.{MOST_COUNT}
use Rattle.script_text.specs.declared.numbers.NextNumbers.{NextNumbers}
use Rattle.script_text.specs.declared.steps.LibStep.{LibStep}
use Rattle.script_text.specs.declared.steps.LibStep.TheVariants as act
use Rattle.script_text.specs.declared.steps.Script.{Script}
use Rattle.script_text.specs.declared.steps.Step.{Step}
use Rattle.script_text.specs.declared.steps.Step.TheVariants as step

-- both are names
abbrev pub AreNames : Names → Type 0
AreNames names = IsTrue (is_name names.us) × IsTrue (is_name names.them)

-- to where a session dials, if it does, is a name
abbrev pub IsAddressed : Option DialTo → Type 0
IsAddressed to = IfSome to (λ dial. IsTrue (is_name dial.address))

-- what an engine can be configured with, in words that a script can have
pub record IsLawfulConfig (config : Config) : Type 0 where
  pub fits : IsConfig config
  pub named : All AreNames config.names
  pub addressed : All IsAddressed config.dialled
  pub sends : config.sends ≤ MOST_COUNT
  pub asks : config.asks ≤ MOST_COUNT

-- how many of the steps are `connect`
abbrev pub connects_in : List Step → ℕ
connects_in [] = 0
connects_in (step.Connect ∷ steps) = suc (connects_in steps)
connects_in (_ ∷ steps) = connects_in steps

-- a replay has a connection for each `connect` line, and may dial as often as can be
pub record IsReplay (script : Script) : Type 0 where
  pub connections : script.config.connections ≡ connects_in script.steps
  pub dials : script.config.dials ≡ MOST_DIALLED

-- a step of a library that the command has: `answer` and `read` are steps of `serve` alone
abbrev pub ActFits : Bool → LibStep → Type 0
ActFits serving act.Answer = IsTrue serving
ActFits serving (act.Read count) = IsTrue serving
ActFits serving _ = Unit {0}

-- a connection that an earlier line made: its number is among those that come, or among those that are dialled
pub record IsMade (next : NextNumbers) (c : ℕ) : Type 0 where
  pub comes : c < FIRST_DIALLED → c < next.connect
  pub dialled : FIRST_DIALLED ≤ c → c < next.take

-- a step that the command has, behind steps that leave these next numbers and this present moment
abbrev pub StepFits : Bool → ℕ → NextNumbers → ℕ → Step → Type 0
StepFits serving libraries next present (step.At now) =
    IsTrue (not serving) × (present ≤ now) × (now ≤ LAST_MOMENT)
StepFits serving libraries next present step.Connect = IsTrue (not serving) × (next.connect < MOST_CONNECTIONS)
StepFits serving libraries next present step.Take = IsTrue (not serving) × (next.take < FIRST_DIALLED + MOST_DIALLED)
StepFits serving libraries next present (step.Bytes c bytes) = IsTrue (not serving) × IsMade next c
StepFits serving libraries next present (step.Frame c body) =
    IsTrue (not serving) × IsMade next c × IsBody body × (length (frame_of body) ≤ LONGEST_FRAME)
StepFits serving libraries next present (step.Finish c) = IsTrue (not serving) × IsMade next c
StepFits serving libraries next present (step.FailRead c) = IsTrue (not serving) × IsMade next c
StepFits serving libraries next present (step.FailWrite c n) = IsTrue (not serving) × IsMade next c
StepFits serving libraries next present (step.Block c n) = IsTrue (not serving) × IsMade next c
StepFits serving libraries next present (step.Unblock c) = IsTrue (not serving) × IsMade next c
StepFits serving libraries next present step.Turn = IsTrue (not serving)
StepFits serving libraries next present (step.Lib library what) =
    (1 ≤ library) × (library ≤ libraries) × ActFits serving what

-- each step fits behind those before it
abbrev pub StepsFit : Bool → ℕ → NextNumbers → ℕ → List Step → Type 0
StepsFit serving libraries next present [] = Unit {0}
StepsFit serving libraries next present (first ∷ rest) =
    StepFits serving libraries next present first
    × StepsFit serving libraries (numbers_with first next) (moment_with first present) rest

-- the numbers of the lines, those of the configuration before all others
abbrev pub line_numbers : Script → List ℕ
line_numbers script = script.session_lines ++ script.step_lines

pub record IsLawful (serving : Bool) (script : Script) : Type 0 where
  pub config : IsLawfulConfig script.config
  pub replays : IsTrue (not serving) → IsReplay script
  pub steps : StepsFit serving script.config.libraries first_numbers 0 script.steps
  pub session_lines : length script.session_lines ≡ length script.config.names
  pub step_lines : length script.step_lines ≡ length script.steps
  pub in_order : AllPairs (λ (m n : ℕ). m < n) (line_numbers script)
