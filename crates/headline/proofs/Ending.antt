-- Over the steps of a script connections end with each whole piece handed out, but for those that a message ends.
use Rattle.std.proofs.Common.{◌≡◌, ℕ, List, sym, ap, subst}
use Rattle.std.proofs.lemmas.List.Elements.{All-nil}
use Rattle.std.specs.List.{All}
use Rattle.engine_config.specs.declared.config.Config.{Config}
use Rattle.engine_loop.specs.declared.engine.Engine.{Engine}
use Rattle.headline.proofs.Carrying.{each_step}
use Rattle.headline.proofs.Walking.{each_in_turn}
use Rattle.headline.proofs.Whole.{turn_whole}
use Rattle.headline.specs.Ends.{AllEndedWhole, EndedWhole}
use Rattle.lease_core.specs.declared.entry.Entry.{Entry}
use Rattle.library_desk.specs.declared.shared.Shared.{Shared}
use Rattle.headline.specs.runs.Accounted.{IsAccountedRun}
use Rattle.headline.specs.Needed.{AccountLaws}
use Rattle.script_run.specs.Means.{StartsRun}
use Rattle.script_run.specs.Runs.{CallsBetween, Carries, CarriesAt, CarriesOut, Meets}
use Rattle.script_run.specs.declared.run.Run.{Run}
use Rattle.script_text.specs.declared.steps.LibStep.{LibStep}
use Rattle.script_text.specs.declared.steps.Step.{Step}
use Rattle.session_core.specs.State.{State}

abbrev WholeIn : Run → Type 0
WholeIn run = AllEndedWhole run.engine.sessions.desk.board

pub first_whole : (config : Config) (moment : ℕ) (shared : Shared) (run : Run) → StartsRun config moment shared run → WholeIn run
first_whole config moment shared run starts = subst (All EndedWhole) (sym starts.engine.sessions.first.connections) (All-nil EndedWhole)

same_board : (old new : Run) → new.engine.sessions.desk.board ≡ old.engine.sessions.desk.board → WholeIn old → WholeIn new
same_board old new same was = subst AllEndedWhole (sym same) was

met : (place : ℕ) (old new : Run) → Meets place old new → WholeIn old → WholeIn new
met place old new is = same_board old new (ap (λ (e : Engine). e.sessions.desk.board) is.caller.changes.engine)

called_between : (what : LibStep) (place : ℕ) (old new : Run) → CallsBetween what place old new → WholeIn old → WholeIn new
called_between what place old new is was =
    met place is.called new is.meets_again (same_board is.met is.called (ap (λ (run : Run). run.engine.sessions.desk.board) is.calls.rest) (met place old is.met is.meets was))

module _ (before : ℕ → List Entry) (start : ℕ → State) (g : AccountLaws) where
  pub carried : (what : Step) (old new : Run) → Carries what old new → IsAccountedRun before start old → WholeIn old → WholeIn new
  carried = each_step (λ old new. IsAccountedRun before start old → WholeIn old → WholeIn new)
      (λ old new is accounted. same_board old new (ap (λ (e : Engine). e.sessions.desk.board) is.engine))
      (λ old new is accounted. turn_whole before start g old.clock.moment _ _ is.turn is.turns accounted.engine.ready accounted.engine.account)
      (λ what place old new is accounted. called_between what place old new is)

  module _ (stays : (what : Step) (old new : Run) → Carries what old new → IsAccountedRun before start old → IsAccountedRun before start new) where
    abbrev Keeps : Run → Run → Type 0
    Keeps old new = IsAccountedRun before start old → WholeIn old → IsAccountedRun before start new × WholeIn new

    pub carried_out : (steps : List Step) (count : ℕ) (old new : Run) → CarriesOut steps count old new → IsAccountedRun before start old → WholeIn old → WholeIn new
    carried_out steps count old new is accounted was =
        (each_in_turn (CarriesAt steps) Keeps (λ run accounted whole. (accounted, whole)) (λ a b c one two accounted whole. (let between = one accounted whole in two between.0 between.1))
        (λ i a b at accounted whole. (stays at.what a b at.carries accounted, carried at.what a b at.carries accounted whole)) count old new is accounted was).1
