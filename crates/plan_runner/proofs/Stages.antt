-- What turns and lines leave of the calls, and how a plan ends.
use Rattle.std.proofs.Common.{◌≡◌, inl, inr, ℕ, zero, suc, ◌+◌, Bool, true, false, List, [], ◌∷◌, length, refl, ap, subst, sym, ◌∙◌, length-append}
use Rattle.run_report.specs.declared.calls.Call.{Call}
use Rattle.script_text.specs.declared.steps.LibStep.{LibStep}
use Rattle.script_text.specs.declared.steps.Step.{Step}
use Rattle.run_report.specs.declared.records.LibReport.{LibReport}
use Rattle.library_api.specs.Known.{Known}
use Rattle.plan_runner.specs.Ends.{EndsPlan, RunsPlan, TellsDone, report_of}
use Rattle.plan_runner.specs.Plans.{CarriesPlan, PlanStands, first_stage}
use Rattle.plan_runner.specs.Turns.{Advances, IsUnderWay, Stage, WaitsFor, WaitsOnce}

once_keeps : (wide : Bool) (line : LibStep) (old new : Stage) → WaitsOnce wide line old new → new.calls ≡ old.calls
once_keeps wide line old new waits = elim waits [
  | inl closed ↦ ap (λ (s : Stage). s.calls) closed.1
  | inr vain ↦ ap (λ (s : Stage). s.calls) vain.rest
]

waits_keep : (wide : Bool) (line : LibStep) (count : ℕ) (old new : Stage) → WaitsFor wide line count old new → new.calls ≡ old.calls
waits_keep wide line zero old new same = ap (λ (s : Stage). s.calls) same
waits_keep wide line (suc n) old new waits = once_keeps wide line waits.0 new waits.2 ∙ waits_keep wide line n old waits.0 waits.1

-- a reported call makes the report longer by one
pub longer : (wide : Bool) (turns : ℕ) (line : LibStep) (old new : Stage) → Advances wide turns line old new → length new.calls ≡ length old.calls + 1
longer wide turns line old new advances =
    let told = advances.reports in
    ap (λ (s : Stage). length s.calls) told.rest
    ∙ (length-append advances.mid.calls (told.call ∷ [])
    ∙ ap (λ (calls : List Call). length calls + 1) (waits_keep wide line advances.waits old advances.mid advances.waited))

pub further : (wide : Bool) (turns : ℕ) (line : LibStep) (old mid new : Stage) → IsUnderWay wide turns line old mid → Advances wide turns line mid new → IsUnderWay wide turns line old new
further wide turns line old mid new way advances = record { told = suc way.told; advances = (mid, way.advances, advances) }

pub ends_plan : (finished wide : Bool) (turns number : ℕ) (plan : List Step) (old new : Stage) → (finished ≡ true → CarriesPlan wide turns number plan old new) → (finished ≡ false → PlanStands wide turns number plan turns old new)
    → EndsPlan finished wide turns number plan old new
ends_plan true wide turns number plan old new carried given_up = carried refl
ends_plan false wide turns number plan old new carried given_up = given_up refl

-- what a plan's end comes to, where the code's numbers are those that were handed in
pub runs_plan : (finished wide : Bool) (turns number of_turns of_number : ℕ) (plan : List Step) (old new : Known) (first over : Stage) (report : LibReport) → first ≡ first_stage old → of_turns ≡ turns → of_number ≡ number → report ≡ report_of of_number finished over
    → (finished ≡ true → CarriesPlan wide turns number plan first over) → (finished ≡ false → PlanStands wide turns number plan turns first over) → TellsDone finished of_turns over.library new
    → RunsPlan wide turns number plan old new report
runs_plan finished wide turns number of_turns of_number plan old new first over report first_is turns_is number_is is carried given_up tells =
    let ends : EndsPlan finished wide turns number plan (first_stage old) over = subst (λ (s : Stage). EndsPlan finished wide turns number plan s over) first_is (ends_plan finished wide turns number plan first over carried given_up) in
    let as_is : report ≡ report_of number finished over = is ∙ ap (λ (n : ℕ). report_of n finished over) number_is in
    subst (λ (r : LibReport). RunsPlan wide turns number plan old new r) (sym as_is)
    (record { over = over; ends = ends; tells = subst (λ (n : ℕ). TellsDone finished n over.library new) turns_is tells; reported = refl })
