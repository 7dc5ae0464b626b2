-- How a replay ends.
use Rattle.std.specs.Prelude.{◌≡◌, ◌⊎◌, ℕ, Bool, false, List, Option, IfSome, Ok, Err}
use Rattle.std.specs.List.{All}
use Rattle.command_words.specs.declared.words.Chosen.{Chosen}
use Rattle.command_words.specs.declared.words.Chosen.TheVariants as chosen
use Rattle.drill_maker.specs.Drill.{drill_of}
use Rattle.engine_end.specs.Records.{HasLawfulJournal}
use Rattle.gate_io.specs.Counts.{HasRisen}
use Rattle.gate_io.specs.MemWire.{link_at}
use Rattle.gate_io.specs.Sink.{HasTaken, HasTakenPrefix}
use Rattle.gateway_run.specs.declared.writing.Printed.{Printed}
use Rattle.gateway_run.specs.declared.writing.Printed.TheVariants as printed
use Rattle.gateway_run.specs.declared.statuses.Status.{Status}
use Rattle.gateway_run.specs.declared.statuses.Status.TheVariants as status
use Rattle.headline.specs.Headline.{Headline}
use Rattle.headline.specs.InPart.{HeadlineInPart}
use Rattle.lease_core.specs.Holdings.{AreAdjoining, holdings_of}
use Rattle.lease_core.specs.State.{state_of}
use Rattle.headline.specs.runs.Records.{IsAccountedRecord}
use Rattle.run_report.specs.Report.{report_of}
use Rattle.run_report.specs.Summary.{summary_of}
use Rattle.run_report.specs.declared.records.RunRecord.{RunRecord}
use Rattle.headline.specs.Means.{Means}
use Rattle.run_report.specs.Records.{no_run}
use Rattle.headline.specs.InPart.{MeansInPart}
use Rattle.script_text.specs.Meaning.{script_of}
use Rattle.session_book.specs.declared.reads.SessionRecord.{SessionRecord}
use Rattle.script_text.specs.declared.kinds.ScriptError.TheVariants.{Fault}
use Rattle.script_text.specs.declared.steps.Script.{Script}

-- the text is this script, one of `serve` or of `replay`, where it is told
abbrev pub IsTextOf : Bool → Option (List ℕ) → Script → Type 0
IsTextOf serving left script = IfSome left (λ text. script_of serving text ≡ Ok script)

-- The script that `replay` carries out for a command: that of the source's text, or the drill of so many rounds; for `serve` none.
abbrev pub IsScriptOf : Chosen → Option (List ℕ) → Script → Type 0
IsScriptOf (chosen.Replay path) left script = IsTextOf false left script
IsScriptOf (chosen.Drill n) left script = script ≡ drill_of n
IsScriptOf (chosen.Serve path address turns) left script = ⊥

-- what is written of a record: its report, or the summary of so many rounds
abbrev pub printed_text : Printed → RunRecord → List ℕ
printed_text printed.Report run = report_of run
printed_text (printed.Summary n) run = summary_of n run

-- and so by a command
abbrev pub text_for : Chosen → RunRecord → List ℕ
text_for (chosen.Replay path) run = report_of run
text_for (chosen.Drill n) run = summary_of n run
text_for (chosen.Serve path address turns) run = report_of run

-- What the owners of a session held, by its journal's entries alone, cuts the messages that the journal counts into intervals: the engine's first, from 0 on,
-- each where the one before ended, and the last up to the end.
abbrev pub HasAdjoiningHoldings : SessionRecord → Type 0
HasAdjoiningHoldings r = AreAdjoining (holdings_of r.registry.entries) (state_of r.registry.entries).inbound

-- The record is what a script means that is one of these, all that it tells is accounted for, and the headline holds of it, where the wire is that which the
-- script's last step left.
pub record IsCarriedOut (Is : Script → Type 0) (run : RunRecord) : Type 0 where
  pub script : Script
  pub is : Is script
  pub meant : Means script run
  pub accounted : IsAccountedRecord script run
  pub headline : Headline script.config (link_at meant.leads.last.wire) run

-- The record is what is left of a script that is one of these, and for which memory was wanting once its run had begun.
pub record IsCarriedOutInPart (Is : Script → Type 0) (run : RunRecord) : Type 0 where
  pub script : Script
  pub is : Is script
  pub meant : MeansInPart script run
  pub headline : HeadlineInPart script.config run

-- Without memory no run began; or one did, and is carried out in part, or wholly where there was none for the text alone. Each journal is lawful.
pub record LeavesWhatThereWas (Is : Script → Type 0) (run : RunRecord) : Type 0 where
  pub lawful : All HasLawfulJournal run.engine.sessions
  pub is : (run ≡ no_run) ⊎ (IsCarriedOutInPart Is run ⊎ IsCarriedOut Is run)

-- What a replay leaves that ends so: on Ok, and where its report can't be written, what the script means. Without memory it is what there was. Else nothing was carried out.
abbrev pub Leaves : (Script → Type 0) → Status → RunRecord → Type 0
Leaves Is status.Ok run = IsCarriedOut Is run
Leaves Is status.WriteFault run = IsCarriedOut Is run
Leaves Is status.OutOfMemory run = LeavesWhatThereWas Is run
Leaves Is status.Usage run = run ≡ no_run
Leaves Is status.ReadFault run = run ≡ no_run
Leaves Is (status.ScriptFault line kind) run = run ≡ no_run
Leaves Is status.ListenFault run = ⊥
Leaves Is (status.TurnsSpent turns library) run = ⊥

-- why no script of `serve` or of `replay` was read: by what the source tells, and by its count of faults before and behind
abbrev pub RefusesSource : Bool → Option (List ℕ) → ℕ → ℕ → Status → Type 0
RefusesSource serving left old new status.ReadFault = HasRisen old new
RefusesSource serving left old new (status.ScriptFault line kind) = IfSome left (λ text. script_of serving text ≡ Err (Fault line kind))
RefusesSource serving left old new status.OutOfMemory = Unit {0}
RefusesSource serving left old new status.Ok = ⊥
RefusesSource serving left old new status.WriteFault = ⊥
RefusesSource serving left old new status.Usage = ⊥
RefusesSource serving left old new status.ListenFault = ⊥
RefusesSource serving left old new (status.TurnsSpent turns library) = ⊥

-- a run that ends so wrote nothing
abbrev pub WritesNothing : Status → Type 0
WritesNothing status.Ok = ⊥
WritesNothing status.WriteFault = ⊥
WritesNothing status.OutOfMemory = Unit {0}
WritesNothing status.Usage = Unit {0}
WritesNothing status.ReadFault = Unit {0}
WritesNothing (status.ScriptFault line kind) = Unit {0}
WritesNothing status.ListenFault = Unit {0}
WritesNothing (status.TurnsSpent turns library) = ⊥

-- What became of a text: of what the sink tells before and behind, of whether its count of faults rose and whether it is as it was.
abbrev pub Writes : List ℕ → Option (List ℕ) → Option (List ℕ) → Type 0 → Type 0 → Status → Type 0
Writes text old new risen same status.Ok = HasTaken old text new
Writes text old new risen same status.WriteFault = HasTakenPrefix old text new × risen
Writes text old new risen same status.OutOfMemory = same
Writes text old new risen same status.Usage = ⊥
Writes text old new risen same status.ReadFault = ⊥
Writes text old new risen same (status.ScriptFault line kind) = ⊥
Writes text old new risen same status.ListenFault = ⊥
Writes text old new risen same (status.TurnsSpent turns library) = ⊥

-- How it ended: what became of the text, or that nothing was written, and why nothing was to be.
abbrev pub EndsSo : (Status → Type 0) → List ℕ → Option (List ℕ) → Option (List ℕ) → Type 0 → Type 0 → Status → Type 0
EndsSo refuses text old new risen same status.Ok = HasTaken old text new
EndsSo refuses text old new risen same status.WriteFault = HasTakenPrefix old text new × risen
EndsSo refuses text old new risen same status.OutOfMemory = same
EndsSo refuses text old new risen same status.Usage = ⊥
EndsSo refuses text old new risen same status.ReadFault = refuses status.ReadFault × same
EndsSo refuses text old new risen same (status.ScriptFault line kind) = refuses (status.ScriptFault line kind) × same
EndsSo refuses text old new risen same status.ListenFault = ⊥
EndsSo refuses text old new risen same (status.TurnsSpent turns library) = ⊥
