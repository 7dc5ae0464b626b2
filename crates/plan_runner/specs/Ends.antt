-- What a library that carried out its plan, or gave it up, tells the engine and leaves.
use Rattle.std.specs.Prelude.{◌≡◌, ◌≤◌, ℕ, ◌<◌, ◌⊎◌, Bool, true, false, List, [], ◌∷◌, ◌++◌, length}
use Rattle.lease_core.specs.declared.messages.Command.{Command}
use Rattle.lease_core.specs.declared.messages.Command.TheVariants as commands
use Rattle.library_api.specs.declared.waited.WaitKind.TheVariants as waits
use Rattle.library_api.specs.Known.{Known, after_waiting}
use Rattle.library_api.specs.Requests.{after_push}
use Rattle.library_calls.specs.Reads.{reads_of}
use Rattle.ring_links.specs.Ends.{IsFull}
use Rattle.run_report.specs.declared.records.LibReport.{LibReport}
use Rattle.script_text.specs.declared.steps.Step.{Step}
use Rattle.plan_runner.specs.Plans.{CarriesPlan, PlanStands, PlanStandsFew, first_stage}
use Rattle.plan_runner.specs.Turns.{Stage, Times}

-- The ring of commands has no room for the word that all is done.
pub record FindsFull (finished : Bool) (old new : Known) : Type 0 where
  pub full : IsFull old.ends.tail.ring.capacity (length old.ends.tail.pushed) new.ends.tail.taken
  pub library : new ≡ after_waiting waits.Done (after_push old new.ends.tail.taken [])

-- It has, and the word is pushed.
abbrev pub Tells : Bool → Known → Known → Type 0
Tells finished old new = new ≡ after_waiting waits.Free (after_push old new.ends.tail.taken (commands.Done finished ∷ []))

-- That word is pushed at the first call that finds room.
pub record TellsAtLast (finished : Bool) (turns : ℕ) (old new : Known) : Type 0 where
  pub fulls : ℕ
  pub few : fulls < turns
  pub mid : Known
  pub waited : Times (FindsFull finished) fulls old mid
  pub tells : Tells finished mid new

-- It is pushed so, or so many calls found no room.
abbrev pub TellsDone : Bool → ℕ → Known → Known → Type 0
TellsDone finished turns old new = TellsAtLast finished turns old new ⊎ Times (FindsFull finished) turns old new

-- The last command that was pushed is the word that all is done.
pub record HasTold (finished : Bool) (library : Known) : Type 0 where
  pub before : List Command
  pub last : library.ends.tail.pushed ≡ before ++ commands.Done finished ∷ []

-- at least so many calls in a row waited for room for that word
pub record WaitsToTell (turns : ℕ) (library : Known) : Type 0 where
  pub kind : library.waited.kind ≡ waits.Done
  pub count : turns ≤ library.waited.count

abbrev pub EndsTold : Bool → ℕ → Known → Type 0
EndsTold finished turns library = HasTold finished library ⊎ WaitsToTell turns library

-- what is reported, where the library stands so before it tells the engine
abbrev pub report_of : ℕ → Bool → Stage → LibReport
report_of number finished over = record { number = number; calls = over.calls; reads = reads_of over.calls; finished = finished; waited = over.library.waited }

-- how a plan ends: it is carried out whole, or given up at a line that had so many waiting turns
abbrev pub EndsPlan : Bool → Bool → ℕ → ℕ → List Step → Stage → Stage → Type 0
EndsPlan true wide turns number plan old new = CarriesPlan wide turns number plan old new
EndsPlan false wide turns number plan old new = PlanStands wide turns number plan turns old new

-- A plan is run: it ends so, and then the library tells the engine.
pub record RunsPlan (wide : Bool) (turns number : ℕ) (plan : List Step) (old new : Known) (report : LibReport) : Type 0 where
  pub over : Stage
  pub ends : EndsPlan report.finished wide turns number plan (first_stage old) over
  pub tells : TellsDone report.finished turns over.library new
  pub reported : report ≡ report_of number report.finished over

-- Memory was wanting at a line that had fewer waiting turns.
pub record RunsShort (wide : Bool) (turns number : ℕ) (plan : List Step) (old new : Known) (report : LibReport) : Type 0 where
  pub over : Stage
  pub stands : PlanStandsFew wide turns number plan (first_stage old) over
  pub tells : TellsDone false turns over.library new
  pub reported : report ≡ report_of number false over
