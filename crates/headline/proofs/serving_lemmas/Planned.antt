-- A library that runs its plan lives on from call to call.
use Rattle.std.proofs.Common.{◌≡◌, inl, inr, ℕ, zero, suc, Bool, true, false, List, [], ◌∷◌, ◌++◌, length, Result, Ok, Err, refl, sym, ap, subst, ◌∙◌}
use Rattle.lease_core.specs.declared.messages.Command.{Command}
use Rattle.lease_core.specs.declared.messages.Command.TheVariants as commands
use Rattle.library_api.specs.Known.{Known}
use Rattle.library_api.specs.Requests.{after_done}
use Rattle.script_run.specs.Calls.{MakesCall}
use Rattle.serve_run.specs.Ends.{EndsPlan, FindsFull, RunsPlan, Tells, TellsDone}
use Rattle.serve_run.specs.Lines.{call_of, is_vain}
use Rattle.serve_run.specs.Plans.{CarriesLineAt, CarriesLines, PlanStands, first_stage}
use Rattle.serve_run.specs.Turns.{Advances, IsUnderWay, Reports, Stage, StandsFor, Times, WaitsOnce, begun}
use Rattle.ring_links.specs.declared.queue.Full.{Full}
use Rattle.headline.specs.runs.Lives.{HasLived, IsInVain, IsReportedAs, Life, SeatStays}
use Rattle.run_report.specs.declared.calls.Call.{Call as Kept}
use Rattle.run_report.specs.declared.records.LibReport.{LibReport}
use Rattle.script_text.specs.declared.steps.LibStep.{LibStep}
use Rattle.script_text.specs.declared.steps.LibStep.TheVariants as act
use Rattle.script_text.specs.declared.steps.Step.{Step}

-- what the laws of a library's life say
pub record LifeLaws : Type 0 where
  pub reports : (requests : ℕ) (what : LibStep) (call : Kept) (old new : Life) → MakesCall what call old.library new.library → new.calls ≡ old.calls ++ call ∷ [] → HasLived IsReportedAs requests old → HasLived IsReportedAs requests new
  pub waits : (requests : ℕ) (what : LibStep) (call : Kept) (old new : Life) → MakesCall what call old.library new.library → IsInVain call → new.calls ≡ old.calls → HasLived IsReportedAs requests old → HasLived IsReportedAs requests new
  pub tells_end : (requests : ℕ) (finished : Bool) (taken : ℕ) (answer : Result (Unit {0}) (Full Command)) (old new : Life) → new.library ≡ after_done old.library (commands.Done finished) taken answer → new.calls ≡ old.calls
      → HasLived IsReportedAs requests old → HasLived IsReportedAs requests new
  pub seat : (what : LibStep) (call : Kept) (old new : Known) → MakesCall what call old new → SeatStays old new

-- It has lived, at a seat of this number that has so many sessions.
pub record Lives (requests number sessions : ℕ) (life : Life) : Type 0 where
  pub lived : HasLived IsReportedAs requests life
  pub seat : life.library.ends.seat.knows.number ≡ number
  pub count : length life.library.ends.seat.knows.sessions ≡ sessions

-- a call that a line makes again is one in vain
in_vain : (line : LibStep) (call : Kept) → is_vain line call ≡ true → IsInVain call
in_vain act.Answer call is = inl is
in_vain (act.Read count) call is = inl is
in_vain (act.Request s from) call is = inr is
in_vain act.Poll call is = inr is
in_vain (act.Send s body) call is = inr is
in_vain (act.Release s) call is = inr is
in_vain act.Beat call is = inr is
in_vain (act.Hand s heir) call is = inr is

-- what each turn keeps, so many turns in a row keep
times_keep : {T : Type 0} (Turn : T → T → Type 0) (P : T → Type 0) → ((old new : T) → Turn old new → P old → P new) → (n : ℕ) (old new : T) → Times Turn n old new → P old → P new
times_keep Turn P each zero old new same was = subst P (sym same) was
times_keep Turn P each (suc n) old new is was = each is.0 new is.2 (times_keep Turn P each n old is.0 is.1 was)

module _ (laws : LifeLaws) (requests number sessions : ℕ) where
  abbrev life_at : Stage → Life
  life_at stage = record { number = number; library = stage.library; calls = stage.calls }

  abbrev LivesAt : Stage → Type 0
  LivesAt stage = Lives requests number sessions (life_at stage)

  called : (line : LibStep) (call : Kept) (old new : Stage) → MakesCall line call old.library new.library → LivesAt old → HasLived IsReportedAs requests (life_at new) → LivesAt new
  called line call old new makes was lived = (
      let stays = laws.seat line call old.library new.library makes in
      record { lived = lived; seat = stays.number ∙ was.seat; count = stays.sessions ∙ was.count })

  waited_once : (wide : Bool) (line : LibStep) (old new : Stage) → WaitsOnce wide line old new → LivesAt old → LivesAt new
  waited_once wide line old new waits was = elim waits [
    | inl closed ↦ subst LivesAt (sym closed.1) was
    | inr vain ↦ called (call_of line) vain.call old new vain.makes was
        (laws.waits requests (call_of line) vain.call (life_at old) (life_at new) vain.makes (in_vain line vain.call vain.vain) (ap (λ (s : Stage). s.calls) vain.rest) was.lived)
  ]

  reported : (line : LibStep) (old new : Stage) → Reports line old new → LivesAt old → LivesAt new
  reported line old new is was =
      called (call_of line) is.call old new is.makes was (laws.reports requests (call_of line) is.call (life_at old) (life_at new) is.makes (ap (λ (s : Stage). s.calls) is.rest) was.lived)

  waited_for : (wide : Bool) (line : LibStep) (count : ℕ) (old new : Stage) → Times (WaitsOnce wide line) count old new → LivesAt old → LivesAt new
  waited_for wide line count old new is was = times_keep (WaitsOnce wide line) LivesAt (waited_once wide line) count old new is was

  advanced : (wide : Bool) (turns : ℕ) (line : LibStep) (old new : Stage) → Advances wide turns line old new → LivesAt old → LivesAt new
  advanced wide turns line old new is was = reported line is.mid new is.reports (waited_for wide line is.waits old is.mid is.waited was)

  under_way : (wide : Bool) (turns : ℕ) (line : LibStep) (old new : Stage) → IsUnderWay wide turns line old new → LivesAt old → LivesAt new
  under_way wide turns line old new is was =
      times_keep (Advances wide turns line) LivesAt (advanced wide turns line) is.told (begun line old) new is.advances (record { lived = was.lived; seat = was.seat; count = was.count })

  stood : (wide : Bool) (turns : ℕ) (line : LibStep) (waits : ℕ) (old new : Stage) → StandsFor wide turns line waits old new → LivesAt old → LivesAt new
  stood wide turns line waits old new is was = waited_for wide line waits is.mid new is.waited (under_way wide turns line old is.mid is.way was)

  lines_carried : (wide : Bool) (turns of : ℕ) (plan : List Step) (count : ℕ) (old new : Stage) → CarriesLines wide turns of plan count old new → LivesAt old → LivesAt new
  lines_carried wide turns of plan zero old new same was = subst LivesAt (sym same) was
  lines_carried wide turns of plan (suc n) old new is was = (
      let line : CarriesLineAt wide turns of plan n is.0 new = is.2 in
      under_way wide turns line.line is.0 new line.carries.way (lines_carried wide turns of plan n old is.0 is.1 was))

  plan_stood : (wide : Bool) (turns of : ℕ) (plan : List Step) (waits : ℕ) (old new : Stage) → PlanStands wide turns of plan waits old new → LivesAt old → LivesAt new
  plan_stood wide turns of plan waits old new is was = stood wide turns is.line waits is.mid new is.stands (lines_carried wide turns of plan is.at old is.mid is.before was)

  plan_ended : (finished wide : Bool) (turns of : ℕ) (plan : List Step) (old new : Stage) → EndsPlan finished wide turns of plan old new → LivesAt old → LivesAt new
  plan_ended true wide turns of plan old new is was = lines_carried wide turns of plan (length plan) old new is was
  plan_ended false wide turns of plan old new is was = plan_stood wide turns of plan turns old new is was

  -- and the word that all is done
  abbrev with_calls : List Kept → Known → Life
  with_calls calls library = record { number = number; library = library; calls = calls }

  abbrev LivesWith : List Kept → Known → Type 0
  LivesWith calls library = Lives requests number sessions (with_calls calls library)

  found_full : (calls : List Kept) (finished : Bool) (old new : Known) → FindsFull finished old new → LivesWith calls old → LivesWith calls new
  found_full calls finished old new is was =
      let full : Full Command = record { item = commands.Done finished; pushed = 0; taken = 0 } in
      record {
        lived = laws.tells_end requests finished new.ends.tail.taken (Err full) (with_calls calls old) (with_calls calls new) is.library refl was.lived;
        seat = ap (λ (k : Known). k.ends.seat.knows.number) is.library ∙ was.seat;
        count = ap (λ (k : Known). length k.ends.seat.knows.sessions) is.library ∙ was.count;
      }

  told : (calls : List Kept) (finished : Bool) (old new : Known) → Tells finished old new → LivesWith calls old → LivesWith calls new
  told calls finished old new is was = record {
    lived = laws.tells_end requests finished new.ends.tail.taken (Ok tt) (with_calls calls old) (with_calls calls new) is refl was.lived;
    seat = ap (λ (k : Known). k.ends.seat.knows.number) is ∙ was.seat;
    count = ap (λ (k : Known). length k.ends.seat.knows.sessions) is ∙ was.count;
  }

  told_done : (calls : List Kept) (finished : Bool) (turns : ℕ) (old new : Known) → TellsDone finished turns old new → LivesWith calls old → LivesWith calls new
  told_done calls finished turns old new tells was = elim tells [
    | inl last ↦ told calls finished last.mid new last.tells (times_keep (FindsFull finished) (LivesWith calls) (found_full calls finished) last.fulls old last.mid last.waited was)
    | inr waits ↦ times_keep (FindsFull finished) (LivesWith calls) (found_full calls finished) turns old new waits was
  ]

  -- a plan is run
  pub plan_run : (wide : Bool) (turns of : ℕ) (plan : List Step) (old new : Known) (report : LibReport) → RunsPlan wide turns of plan old new report → LivesWith [] old → LivesWith report.calls new
  plan_run wide turns of plan old new report is was =
      let over = plan_ended report.finished wide turns of plan (first_stage old) is.over is.ends (record { lived = was.lived; seat = was.seat; count = was.count }) in
      subst (λ calls. LivesWith calls new) (sym (ap (λ (r : LibReport). r.calls) is.reported))
      (told_done is.over.calls report.finished turns is.over.library new is.tells (record { lived = over.lived; seat = over.seat; count = over.count }))
