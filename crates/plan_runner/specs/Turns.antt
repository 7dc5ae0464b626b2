-- How a library carries out a line: turn by turn, each of which waits or is reported.
use Rattle.std.specs.Prelude.{◌≡◌, ℕ, zero, suc, ◌<◌, ◌⊎◌, Bool, true, false, List, [], ◌∷◌, ◌++◌}
use Rattle.library_api.specs.Known.{Known}
use Rattle.library_calls.specs.Calls.{MakesCall}
use Rattle.run_report.specs.declared.calls.Call.{Call}
use Rattle.script_text.specs.declared.steps.LibStep.{LibStep}
use Rattle.plan_runner.specs.Lines.{call_of, is_vain, left_after, left_first}

-- Between two turns: what the library knows, the calls that were reported so far, and how much is left of the line that stands.
pub record Stage : Type 0 where
  pub library : Known
  pub calls : List Call
  pub left : ℕ

-- a call that is made again: it isn't reported
pub record CallsInVain (line : LibStep) (old new : Stage) : Type 0 where
  pub call : Call
  pub makes : MakesCall (call_of line) call old.library new.library
  pub vain : is_vain line call ≡ true
  pub rest : new ≡ record old { library = new.library }

-- A waiting turn: the gate, which isn't open wide, is closed, or a call is made again.
abbrev pub WaitsOnce : Bool → LibStep → Stage → Stage → Type 0
WaitsOnce wide line old new = ((wide ≡ false) × (new ≡ old)) ⊎ CallsInVain line old new

-- a call that is reported
pub record Reports (line : LibStep) (old new : Stage) : Type 0 where
  pub call : Call
  pub makes : MakesCall (call_of line) call old.library new.library
  pub told : is_vain line call ≡ false
  pub rest : new ≡ record { library = new.library; calls = old.calls ++ call ∷ []; left = left_after line call new.library.unanswered old.left }

-- so many times in a row
abbrev pub Times : {T : Type 0} → (T → T → Type 0) → ℕ → T → T → Type 0
Times Turn zero old new = new ≡ old
Times {T} Turn (suc n) old new = (mid : T) × Times Turn n old mid × Turn mid new

-- so many waiting turns in a row
abbrev pub WaitsFor : Bool → LibStep → ℕ → Stage → Stage → Type 0
WaitsFor wide line count old new = Times (WaitsOnce wide line) count old new

-- A line of which something is left comes to its next reported call, behind fewer waiting turns than those that give a plan up.
pub record Advances (wide : Bool) (turns : ℕ) (line : LibStep) (old new : Stage) : Type 0 where
  pub some : 0 < old.left
  pub waits : ℕ
  pub few : waits < turns
  pub mid : Stage
  pub waited : WaitsFor wide line waits old mid
  pub reports : Reports line mid new

-- a line begins
abbrev pub begun : LibStep → Stage → Stage
begun line old = record old { left = left_first line old.library.unanswered }

-- a line so far: it has come to some reported calls
pub record IsUnderWay (wide : Bool) (turns : ℕ) (line : LibStep) (old new : Stage) : Type 0 where
  pub told : ℕ
  pub advances : Times (Advances wide turns line) told (begun line old) new

-- A line is carried out: nothing of it is left.
pub record CarriesLine (wide : Bool) (turns : ℕ) (line : LibStep) (old new : Stage) : Type 0 where
  pub way : IsUnderWay wide turns line old new
  pub all : new.left ≡ 0

-- A line stands: something of it is left, and since its last reported call it had so many waiting turns.
pub record StandsFor (wide : Bool) (turns : ℕ) (line : LibStep) (waits : ℕ) (old new : Stage) : Type 0 where
  pub mid : Stage
  pub way : IsUnderWay wide turns line old mid
  pub some : 0 < mid.left
  pub waited : WaitsFor wide line waits mid new

-- Fewer waiting turns in a row than those that give a plan up.
pub record WaitsFew (wide : Bool) (turns : ℕ) (line : LibStep) (old new : Stage) : Type 0 where
  pub waits : ℕ
  pub few : waits < turns
  pub waited : WaitsFor wide line waits old new

-- A line stands, and since its last reported call it had fewer.
pub record StandsFew (wide : Bool) (turns : ℕ) (line : LibStep) (old new : Stage) : Type 0 where
  pub waits : ℕ
  pub few : waits < turns
  pub stands : StandsFor wide turns line waits old new
