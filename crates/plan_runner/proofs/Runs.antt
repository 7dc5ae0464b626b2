-- What follows of a plan that was run.
use Rattle.std.proofs.Common.{◌≡◌, ℕ, ◌≤◌, Bool, true, false, List, length, refl, ap, subst, sym}
use Rattle.library_api.specs.Known.{Known}
use Rattle.library_api.specs.Waits.{Waits, most_waits}
use Rattle.run_report.specs.declared.calls.Call.{Call}
use Rattle.run_report.specs.declared.records.LibReport.{LibReport}
use Rattle.script_text.specs.declared.steps.Step.{Step}
use Rattle.plan_runner.specs.Calls.{PlanCalls, StandCalls}
use Rattle.plan_runner.specs.Ends.{EndsPlan, RunsPlan}
use Rattle.plan_runner.specs.Plans.{CarriesPlan, PlanStands, first_stage}
use Rattle.plan_runner.specs.Turns.{Stage}
use Rattle.plan_runner.specs.Waits.{CountsIdle, WaitsAtLine}
use Rattle.plan_runner.proofs.Idle.{stand_idle}
use Rattle.plan_runner.proofs.Told.{lines_calls, stand_calls, waits_at}

module _ (wide : Bool) (turns number : ℕ) (plan : List Step) (old new : Known) (report : LibReport) where
  pub whole_calls : RunsPlan wide turns number plan old new report → report.finished ≡ true → PlanCalls number plan (length plan) report.calls
  whole_calls runs finished =
      let ends : CarriesPlan wide turns number plan (first_stage old) runs.over = subst (λ (b : Bool). EndsPlan b wide turns number plan (first_stage old) runs.over) finished runs.ends in
      subst (λ (calls : List Call). PlanCalls number plan (length plan) calls) (sym (ap (λ (r : LibReport). r.calls) runs.reported)) (lines_calls wide turns number plan (length plan) (first_stage old) runs.over refl ends)

  given_up : RunsPlan wide turns number plan old new report → report.finished ≡ false → (over : Stage) × PlanStands wide turns number plan turns (first_stage old) over × (report.calls ≡ over.calls) × (report.waited ≡ over.library.waited)
  given_up runs finished =
      (runs.over, subst (λ (b : Bool). EndsPlan b wide turns number plan (first_stage old) runs.over) finished runs.ends, ap (λ (r : LibReport). r.calls) runs.reported, ap (λ (r : LibReport). r.waited) runs.reported)

  pub part_calls : RunsPlan wide turns number plan old new report → report.finished ≡ false → StandCalls number plan report.calls
  part_calls runs finished =
      let up = given_up runs finished in
      subst (λ (calls : List Call). StandCalls number plan calls) (sym up.2) (stand_calls wide turns number plan turns (first_stage old) up.0 refl up.1)

  pub part_waits : 1 ≤ turns → turns ≤ most_waits → RunsPlan wide turns number plan old new report → wide ≡ true → report.finished ≡ false → WaitsAtLine turns number plan report.calls report.waited
  part_waits some most runs is_open finished =
      let up = given_up runs finished in
      let stands : PlanStands true turns number plan turns (first_stage old) up.0 = subst (λ (b : Bool). PlanStands b turns number plan turns (first_stage old) up.0) is_open up.1 in
      subst (λ (w : Waits). WaitsAtLine turns number plan report.calls w) (sym up.3)
      (subst (λ (calls : List Call). WaitsAtLine turns number plan calls up.0.library.waited) (sym up.2) (waits_at turns number plan (first_stage old) up.0 some most refl stands))

  pub part_idles : 1 ≤ turns → turns ≤ most_waits → RunsPlan wide turns number plan old new report → wide ≡ true → report.finished ≡ false → CountsIdle turns report.calls report.waited
  part_idles some most runs is_open finished =
      let up = given_up runs finished in
      let stands : PlanStands true turns number plan turns (first_stage old) up.0 = subst (λ (b : Bool). PlanStands b turns number plan turns (first_stage old) up.0) is_open up.1 in
      subst (λ (w : Waits). CountsIdle turns report.calls w) (sym up.3)
      (subst (λ (calls : List Call). CountsIdle turns calls up.0.library.waited) (sym up.2) (stand_idle turns number plan (first_stage old) up.0 some most refl stands))
