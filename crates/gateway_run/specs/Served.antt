-- How serving ends.
use Rattle.std.specs.Prelude.{◌≡◌, ◌⊎◌, ℕ, Bool, List, Option, None, Some}
use Rattle.std.specs.List.{All}
use Rattle.headline.specs.clock.Kept.{KeepsTime}
use Rattle.engine_end.specs.Records.{HasLawfulJournal}
use Rattle.gate_io.specs.Sink.{HasTaken, HasTakenPrefix}
use Rattle.gate_io.specs.Wire.{Door, Link}
use Rattle.gate_io.specs.declared.wires.Listened.{Listened}
use Rattle.gate_io.specs.declared.wires.Listened.TheVariants.{Ready}
use Rattle.gateway_run.specs.declared.statuses.Status.{Status}
use Rattle.gateway_run.specs.declared.statuses.Status.TheVariants as status
use Rattle.headline.specs.Finished.{IsFinished}
use Rattle.headline.specs.Headline.{Headline}
use Rattle.headline.specs.InPart.{HeadlineInPart}
use Rattle.run_report.specs.declared.records.RunRecord.{RunRecord}
use Rattle.script_text.specs.declared.steps.Script.{Script}
use Rattle.run_report.specs.Records.{no_run}
use Rattle.headline.specs.Serves.{Serves}
use Rattle.headline.specs.InPart.{ServesInPart}

-- A wire came to listen at this address, and tells this of its connections.
pub record ListensAt {W : Type 0} (gives : W → List ℕ → Listened → W → Type 0) (link : W → ℕ → Link) (old : W) (address : List ℕ) (links : ℕ → Link) : Type 0 where
  pub wire : W
  pub listens : gives old address Ready wire
  pub tells : (c : ℕ) → links c ≡ link wire c

-- The script is served over a wire that listens so, which told of its connections, as it began to, what it told before. The headline holds of the record, where the
-- wire tells what it does in the end; where no turns were spent nothing is left to wait for; where a connection ended since nothing came, the clock goes on in the run for
-- at least as long as it is waited for, and where a lease was taken back for its library's silence, for at least as long as a library may be silent.
pub record WireServes (Listening : (ℕ → Link) → Type 0) (wide : Bool) (Read : List ℕ → Type 0) (old new : Door) (old_links new_links : ℕ → Link) (script : Script) (turns : ℕ) (run : RunRecord) (spent : Option ℕ) : Type 0 where
  pub links : ℕ → Link
  pub listening : Listening links
  pub same : (c : ℕ) → links c ≡ old_links c
  pub serves : Serves script turns wide Read old new links new_links run spent
  pub headline : Headline script.config new_links run
  pub finished : spent ≡ None → IsFinished script.config.connections script.config.dials run
  pub clock : KeepsTime script.config serves.reading serves.drives.last.readings run

-- however it came to listen
abbrev pub Anyhow : (ℕ → Link) → Type 0
Anyhow links = Unit {0}

-- the record is what serving a script leaves that is one of these, and so the turns were spent
pub record IsServed (Is : Script → Type 0) (turns : ℕ) (Serving : Script → ℕ → RunRecord → Option ℕ → Type 0) (run : RunRecord) (spent : Option ℕ) : Type 0 where
  pub script : Script
  pub is : Is script
  pub serves : Serving script turns run spent

-- The record is what is left of a script that is one of these, for which memory was wanting once it had begun to be served over a wire that told this.
pub record IsServedInPart (Is : Script → Type 0) (turns : ℕ) (wide : Bool) (old : Door) (run : RunRecord) : Type 0 where
  pub script : Script
  pub is : Is script
  pub links : ℕ → Link
  pub serves : ServesInPart script turns wide old links run
  pub headline : HeadlineInPart script.config run

-- nothing was accepted, dialled, read or written
pub record IsUnasked (old new : Door) (old_links new_links : ℕ → Link) : Type 0 where
  pub door : new ≡ old
  pub links : (c : ℕ) → new_links c ≡ old_links c

-- Without memory nothing was served, and nothing asked of the wire; or the script was served in part, or to its end where there was none for the report alone. Each journal is
-- lawful.
pub record LeavesWhatWasServed (Is : Script → Type 0) (turns : ℕ) (Serving : Script → ℕ → RunRecord → Option ℕ → Type 0) (InPart : RunRecord → Type 0) (Unasked : Type 0) (run : RunRecord) : Type 0 where
  pub lawful : All HasLawfulJournal run.engine.sessions
  pub is : ((run ≡ no_run) × Unasked) ⊎ (InPart run ⊎ ((spent : Option ℕ) × IsServed Is turns Serving run spent))

-- What serving leaves that ends so: on Ok no turns were spent, on TurnsSpent those of the library that it names, and where the report can't be written either. Without
-- memory it is what there was. Else nothing was served.
abbrev pub ServesSo : (Script → Type 0) → ℕ → (Script → ℕ → RunRecord → Option ℕ → Type 0) → (RunRecord → Type 0) → Type 0 → Status → RunRecord → Type 0
ServesSo Is turns Serving InPart Unasked status.Ok run = IsServed Is turns Serving run None
ServesSo Is turns Serving InPart Unasked (status.TurnsSpent spent library) run = (spent ≡ turns) × IsServed Is turns Serving run (Some library)
ServesSo Is turns Serving InPart Unasked status.WriteFault run = (spent : Option ℕ) × IsServed Is turns Serving run spent
ServesSo Is turns Serving InPart Unasked status.OutOfMemory run = LeavesWhatWasServed Is turns Serving InPart Unasked run
ServesSo Is turns Serving InPart Unasked status.Usage run = run ≡ no_run
ServesSo Is turns Serving InPart Unasked status.ReadFault run = run ≡ no_run
ServesSo Is turns Serving InPart Unasked (status.ScriptFault line kind) run = run ≡ no_run
ServesSo Is turns Serving InPart Unasked status.ListenFault run = run ≡ no_run

-- turns were spent
abbrev pub IsSpent : Status → Type 0
IsSpent ended = (turns : ℕ) × (library : ℕ) × (ended ≡ status.TurnsSpent turns library)

-- How it ended: what became of the report, or that nothing was written, and why nothing was to be.
abbrev pub EndsServing : (Status → Type 0) → Type 0 → List ℕ → Option (List ℕ) → Option (List ℕ) → Type 0 → Type 0 → Status → Type 0
EndsServing refuses listen text old new risen same status.Ok = HasTaken old text new
EndsServing refuses listen text old new risen same (status.TurnsSpent turns library) = HasTaken old text new
EndsServing refuses listen text old new risen same status.WriteFault = HasTakenPrefix old text new × risen
EndsServing refuses listen text old new risen same status.OutOfMemory = same
EndsServing refuses listen text old new risen same status.Usage = ⊥
EndsServing refuses listen text old new risen same status.ReadFault = refuses status.ReadFault × same
EndsServing refuses listen text old new risen same (status.ScriptFault line kind) = refuses (status.ScriptFault line kind) × same
EndsServing refuses listen text old new risen same status.ListenFault = listen × same

-- how serving ends, by how the writing of its report ended and whose turns were spent
abbrev pub with_spent : Status → ℕ → Option ℕ → Status
with_spent status.Ok turns (Some library) = status.TurnsSpent turns library
with_spent status.Ok turns None = status.Ok
with_spent status.OutOfMemory turns spent = status.OutOfMemory
with_spent status.Usage turns spent = status.Usage
with_spent status.ReadFault turns spent = status.ReadFault
with_spent status.WriteFault turns spent = status.WriteFault
with_spent (status.ScriptFault line kind) turns spent = status.ScriptFault line kind
with_spent (status.TurnsSpent made library) turns spent = status.TurnsSpent made library
with_spent status.ListenFault turns spent = status.ListenFault
