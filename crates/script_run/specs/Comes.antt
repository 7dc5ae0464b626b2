-- What a step of a script does at the wire.
use Rattle.std.specs.Prelude.{◌≡◌, ℕ, ◌+◌, true, false, List, [], ◌∷◌, ◌++◌, length, None, Some}
use Rattle.fix_frame.specs.Frame.{frame_of}
use Rattle.gate_io.specs.MemWire.{ChangesLink, WireState, link_given, new_link, state_at}
use Rattle.gate_io.specs.declared.wires.TheConstants.{FIRST_DIALLED}
use Rattle.script_text.specs.Lawful.{StepFits, StepsFit}
use Rattle.script_text.specs.declared.numbers.NextNumbers.{NextNumbers}
use Rattle.script_text.specs.declared.steps.Step.{Step}
use Rattle.script_text.specs.declared.steps.Step.TheVariants as step

-- the numbers that the next connections get on this wire
abbrev pub next_of : WireState → NextNumbers
next_of wire = record { connect = length wire.links; take = FIRST_DIALLED + length wire.taken }

-- A step of a script for so many libraries, on this wire: the connection that it names is made, and one that it makes can be.
pub record FitsOn (libraries : ℕ) (wire : WireState) (what : Step) : Type 0 where
  pub present : ℕ
  pub fits : StepFits false libraries (next_of wire) present what

-- Steps of a script for so many libraries, one behind another from this wire on.
pub record FitBehind (libraries : ℕ) (wire : WireState) (steps : List Step) : Type 0 where
  pub present : ℕ
  pub fit : StepsFit false libraries (next_of wire) present steps

-- what the step does there
abbrev pub ComesAs : Step → WireState → WireState → Type 0
ComesAs step.Connect old new = new ≡ record old { links = old.links ++ new_link ∷ [] }
ComesAs step.Take old new = new ≡ record old { taken = old.taken ++ new_link ∷ [] }
ComesAs (step.Bytes c bytes) old new = ChangesLink old c (link_given (state_at old c) bytes) new
ComesAs (step.Frame c body) old new = ChangesLink old c (link_given (state_at old c) (frame_of body)) new
ComesAs (step.Finish c) old new = ChangesLink old c (record (state_at old c) { finished = true }) new
ComesAs (step.FailRead c) old new = ChangesLink old c (record (state_at old c) { read_fails = true }) new
ComesAs (step.FailWrite c after) old new = ChangesLink old c (record (state_at old c) { fails_after = Some after }) new
ComesAs (step.Block c after) old new = ChangesLink old c (record (state_at old c) { blocks_after = Some after }) new
ComesAs (step.Unblock c) old new = ChangesLink old c (record (state_at old c) { blocks_after = None }) new
ComesAs (step.At moment) old new = new ≡ old
ComesAs step.Turn old new = new ≡ old
ComesAs (step.Lib library what) old new = new ≡ old
