-- A library of a run with its plan, and its work.
use Rattle.std.specs.Prelude.{◌≡◌, ℕ, ◌+◌, ◌-◌, ◌<◌, ◌≤◌, Bool, true, false, List, length, slice_get, slice_index_or, Some, None}
use Rattle.engine_config.specs.declared.config.Config.{Config}
use Rattle.lease_words.specs.Tokens.{new_library_seat}
use Rattle.lease_words.specs.Views.{LibraryView}
use Rattle.library_api.specs.Ends.{belongings}
use Rattle.library_api.specs.Known.{new_library}
use Rattle.library_desk.specs.declared.shared.Shared.{Shared}
use Rattle.plan_runner.specs.Calls.{PlanCalls, StandCalls}
use Rattle.plan_runner.specs.Ends.{EndsTold, RunsPlan, RunsShort}
use Rattle.plan_runner.specs.Lines.{IsPlanOf}
use Rattle.plan_runner.specs.Waits.{CountsIdle, WaitsAtLine}
use Rattle.ring_links.specs.Ends.{new_head, new_tail}
use Rattle.run_report.specs.declared.records.LibReport.{LibReport}
use Rattle.script_text.specs.declared.steps.Step.{Step}
use Rattle.serve_run.specs.Plans.{plan_of}
use Rattle.serve_run.specs.declared.workers.Worker.{Worker}

-- a library's seat belongs to the table, and its ends to the rings of its number
pub record IsWorker (shared : Shared) (worker : Worker) : Type 0 where
  pub first : 1 ≤ worker.number
  pub table : worker.library.ends.seat.table ≡ shared.leases
  pub commands : slice_get shared.commands.items (worker.number - 1) ≡ Some worker.library.ends.tail.ring
  pub notices : slice_get shared.notices.items (worker.number - 1) ≡ Some worker.library.ends.head.ring

-- its number is its seat's, it has a plan of its own lines, and no request is open
pub record IsReady (shared : Shared) (worker : Worker) : Type 0 where
  pub is : IsWorker shared worker
  pub number : worker.number ≡ worker.library.ends.seat.knows.number
  pub plan : IsPlanOf worker.number worker.plan.items
  pub closed : worker.library.unanswered ≡ None

-- Its plan was carried out whole, or given up at a line that waited too often.
pub record HasRun (wide : Bool) (turns : ℕ) (old new : Worker) : Type 0 where
  pub runs : RunsPlan wide turns old.number old.plan.items old.library new.library new.report
  pub calls : new.report.finished ≡ true → PlanCalls old.number old.plan.items (length old.plan.items) new.report.calls
  pub given_up : new.report.finished ≡ false → StandCalls old.number old.plan.items new.report.calls
  pub waited : wide ≡ true → new.report.finished ≡ false → WaitsAtLine turns old.number old.plan.items new.report.calls new.report.waited
  pub counts : wide ≡ true → new.report.finished ≡ false → CountsIdle turns new.report.calls new.report.waited
  pub told : EndsTold new.report.finished turns new.library

-- Memory was wanting at a line.
pub record HasRunShort (wide : Bool) (turns : ℕ) (old new : Worker) : Type 0 where
  pub runs : RunsShort wide turns old.number old.plan.items old.library new.library new.report
  pub calls : StandCalls old.number old.plan.items new.report.calls
  pub unfinished : new.report.finished ≡ false
  pub told : EndsTold false turns new.library

-- A library works: it runs its plan, and what it reports is kept.
pub record Works (wide : Bool) (turns : ℕ) (old new : Worker) : Type 0 where
  pub runs : new.short ≡ false → HasRun wide turns old new
  pub runs_short : new.short ≡ true → HasRunShort wide turns old new
  pub belongings : belongings new.library.ends ≡ belongings old.library.ends
  pub rest : new ≡ record old { library = new.library; report = new.report; short = new.short }

-- each of these did
pub record AllWork (wide : Bool) (turns : ℕ) (old new : List Worker) : Type 0 where
  pub count : length new ≡ length old
  pub each : (place : ℕ) (d : Worker) → place < length old → Works wide turns (slice_index_or old place d) (slice_index_or new place d)

-- A library as it begins, at its place, with its lines of the steps: it has done nothing.
pub record StartsWorker (asks : ℕ) (shared : Shared) (steps : List Step) (place : ℕ) (worker : Worker) : Type 0 where
  pub number : worker.number ≡ place + 1
  pub seat : worker.library.ends.seat ≡ new_library_seat shared.leases (place + 1)
  pub commands : slice_get shared.commands.items place ≡ Some worker.library.ends.tail.ring
  pub notices : slice_get shared.notices.items place ≡ Some worker.library.ends.head.ring
  pub tail : worker.library.ends.tail ≡ new_tail worker.library.ends.tail.ring
  pub head : worker.library.ends.head ≡ new_head worker.library.ends.head.ring
  pub library : worker.library ≡ new_library worker.library.ends asks
  pub plan : worker.plan.items ≡ plan_of (place + 1) steps

-- so many libraries, in the order of their numbers
pub record StartsWorkers (asks count : ℕ) (shared : Shared) (steps : List Step) (workers : List Worker) : Type 0 where
  pub as_many : length workers ≡ count
  pub each : (place : ℕ) (worker : Worker) → slice_get workers place ≡ Some worker → StartsWorker asks shared steps place worker

-- what a library leaves
abbrev pub report_of : Worker → LibReport
report_of worker = worker.report

abbrev pub seat_of : Worker → LibraryView
seat_of worker = worker.library.ends.seat
