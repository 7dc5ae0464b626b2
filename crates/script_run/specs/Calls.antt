-- What a call of a library leaves.
use Rattle.std.specs.Prelude.{◌≡◌, [], ◌∷◌, ◌++◌}
pub use Rattle.library_calls.specs.Calls.{Hands, MakesCall, Polls, Releases, Requests, SendsTo}
use Rattle.run_report.specs.declared.calls.Call.{Call}
use Rattle.script_run.specs.declared.callers.Caller.{Caller}
use Rattle.script_text.specs.declared.steps.LibStep.{LibStep}

-- the call is kept with its answer
pub record CallsAs (what : LibStep) (old new : Caller) : Type 0 where
  pub call : Call
  pub makes : MakesCall what call old.library new.library
  pub told : new.calls.items ≡ old.calls.items ++ call ∷ []
  pub rest : new ≡ record old { library = new.library; calls = new.calls }
