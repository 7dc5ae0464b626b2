-- A library that worked.
use Rattle.std.proofs.Common.{◌≡◌, ℕ, ◌+◌, ◌-◌, Bool, true, false, Result, Ok, Err, List, length, refl, ap, subst, sym, ◌∙◌, arith}
use Rattle.std.specs.Prelude.{IfOk, IsErr, OnErr, Some}
use Rattle.library_api.specs.Ends.{Belongings, belongings}
use Rattle.library_desk.specs.declared.shared.Shared.{Shared}
use Rattle.plan_runner.specs.Calls.{PlanCalls, StandCalls}
use Rattle.plan_runner.specs.Ends.{EndsTold, RunsPlan}
use Rattle.plan_runner.specs.Lines.{IsPlanOf}
use Rattle.plan_runner.specs.Waits.{CountsIdle, WaitsAtLine}
use Rattle.script_text.specs.declared.steps.Step.{Step}
use Rattle.serve_run.specs.Plans.{plan_of}
use Rattle.serve_run.specs.Workers.{HasRun, IsReady, IsWorker, StartsWorker}
use Rattle.serve_run.specs.declared.workers.Worker.{Worker}
use Rattle.serve_run.proofs.Plans.{plans_are_own}

-- what is told of a plan is told of the library's own
pub has_run : (wide : Bool) (turns : ℕ) (old new : Worker) (plan : List Step) → plan ≡ old.plan.items → RunsPlan wide turns old.number plan old.library new.library new.report → (new.report.finished ≡ true → PlanCalls old.number plan (length plan) new.report.calls)
    → (new.report.finished ≡ false → StandCalls old.number plan new.report.calls) → (wide ≡ true → new.report.finished ≡ false → WaitsAtLine turns old.number plan new.report.calls new.report.waited)
    → (wide ≡ true → new.report.finished ≡ false → CountsIdle turns new.report.calls new.report.waited) → EndsTold new.report.finished turns new.library → HasRun wide turns old new
has_run wide turns old new plan is runs calls given_up waited counts told = record {
  runs = subst (λ (p : List Step). RunsPlan wide turns old.number p old.library new.library new.report) is runs;
  calls = λ done. subst (λ (p : List Step). PlanCalls old.number p (length p) new.report.calls) is (calls done);
  given_up = λ left. subst (λ (p : List Step). StandCalls old.number p new.report.calls) is (given_up left);
  waited = λ open_wide left. subst (λ (p : List Step). WaitsAtLine turns old.number p new.report.calls new.report.waited) is (waited open_wide left);
  counts = counts;
  told = told;
}

-- its table and rings are the same
pub stays_worker : (shared : Shared) (old new : Worker) → new.number ≡ old.number → belongings new.library.ends ≡ belongings old.library.ends → IsWorker shared old → IsWorker shared new
stays_worker shared old new number same was = record {
  first = rw number was.first;
  table = ap (λ (b : Belongings). b.leases) same ∙ was.table;
  commands = rw number (was.commands ∙ ap (λ (b : Belongings). Some b.commands) (sym same));
  notices = rw number (was.notices ∙ ap (λ (b : Belongings). Some b.notices) (sym same));
}

-- a library that has done nothing is ready for its plan
pub begun_is_ready : (asks : ℕ) (shared : Shared) (steps : List Step) (place : ℕ) (worker : Worker) → StartsWorker asks shared steps place worker → IsReady shared worker
begun_is_ready asks shared steps place worker starts =
    let at : worker.number - 1 ≡ place = (let n = starts.number in omega arith) in
    let seat : worker.library.ends.seat.knows.number ≡ place + 1 = ap (λ s. s.knows.number) starts.seat in
    record {
      is = record {
        first = (let n = starts.number in omega arith);
        table = ap (λ s. s.table) starts.seat;
        commands = rw at starts.commands;
        notices = rw at starts.notices;
      };
      number = starts.number ∙ sym seat;
      plan = subst (λ (p : List Step). IsPlanOf worker.number p) (sym starts.plan) (subst (λ (n : ℕ). IsPlanOf n (plan_of (place + 1) steps)) (sym starts.number) (plans_are_own (place + 1) steps (omega arith)));
      closed = ap (λ k. k.unanswered) starts.library;
    }

-- what follows of a run whose turns came to an end
pub with_end : {S E F : Type 0} (ended : Result Bool F) (result : Result S E) (Concludes : Bool → S → Type 0) (Drives : Bool → Type 0) (Serves : S → Type 0) → IfOk result (λ s. IfOk ended (λ over. Concludes over s)) → OnErr ended (IsErr result) → IfOk ended Drives
    → ((over : Bool) (s : S) → Drives over → Concludes over s → Serves s) → IfOk result Serves
with_end (Ok over) (Ok s) Concludes Drives Serves concludes none drives follows = follows over s drives concludes
with_end (Ok over) (Err e) Concludes Drives Serves concludes none drives follows = tt
with_end (Err e) (Ok s) Concludes Drives Serves concludes none drives follows = absurd (let no : false ≡ true = none in cc)
with_end (Err e) (Err f) Concludes Drives Serves concludes none drives follows = tt
