-- A step of a script is one of three: time goes by, or something comes at the wire, and engine and libraries stay; a turn; or a call between two meetings.
use Rattle.std.proofs.Common.{◌≡◌, ◌⊎◌, inl, inr, ◌-◌, ℕ, ap}
use Rattle.script_run.specs.Comes.{ComesAs}
use Rattle.script_run.specs.Runs.{CallsBetween, Carries, ComesAtWire, TurnsOver, with_room}
use Rattle.script_run.specs.declared.run.Run.{Run}
use Rattle.script_text.specs.declared.steps.LibStep.{LibStep}
use Rattle.script_text.specs.declared.steps.Step.{Step}
use Rattle.script_text.specs.declared.steps.Step.TheVariants as step

-- engine and libraries stay, and the wire does too, or something comes there
pub record StaysAside (old new : Run) : Type 0 where
  pub engine : new.engine ≡ old.engine
  pub callers : new.callers ≡ old.callers
  pub wire : (new.wire ≡ old.wire) ⊎ ((what : Step) × ComesAs what old.wire new.wire)

module _ (R : Run → Run → Type 0) (aside : (old new : Run) → StaysAside old new → R old new) (turns : (old new : Run) → TurnsOver (with_room old) new → R old new)
    (calls : (what : LibStep) (place : ℕ) (old new : Run) → CallsBetween what place old new → R old new) where
  came : (what : Step) (old new : Run) → ComesAtWire what old new → R old new
  came what old new is =
      aside old new (record { engine = ap (λ (run : Run). run.engine) is.rest; callers = ap (λ (run : Run). run.callers) is.rest; wire = inr (what, is.comes) })

  -- so what those three keep each step keeps
  pub each_step : (what : Step) (old new : Run) → Carries what old new → R old new
  each_step (step.At moment) old new is =
      aside old new (record { engine = ap (λ (run : Run). run.engine) is; callers = ap (λ (run : Run). run.callers) is; wire = inl (ap (λ (run : Run). run.wire) is) })
  each_step step.Turn old new is = turns old new is
  each_step (step.Lib library what) old new is = calls what (library - 1) old new is
  each_step step.Connect old new is = came step.Connect old new is
  each_step step.Take old new is = came step.Take old new is
  each_step (step.Bytes c bytes) old new is = came (step.Bytes c bytes) old new is
  each_step (step.Frame c body) old new is = came (step.Frame c body) old new is
  each_step (step.Finish c) old new is = came (step.Finish c) old new is
  each_step (step.FailRead c) old new is = came (step.FailRead c) old new is
  each_step (step.FailWrite c after) old new is = came (step.FailWrite c after) old new is
  each_step (step.Block c after) old new is = came (step.Block c after) old new is
  each_step (step.Unblock c) old new is = came (step.Unblock c) old new is
