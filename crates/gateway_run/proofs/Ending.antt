-- What a replay leaves, by how the writing of its text ended.
use Rattle.std.proofs.Common.{◌≡◌, inr, ℕ, List, Option, subst}
use Rattle.gate_io.specs.Sink.{HasTakenPrefix}
use Rattle.std.specs.List.{All}
use Rattle.engine_end.specs.Records.{HasLawfulJournal}
use Rattle.gateway_run.specs.Outcome.{EndsSo, IsCarriedOut, Leaves, Writes}
use Rattle.gateway_run.specs.declared.statuses.Status.{Status}
use Rattle.gateway_run.specs.declared.statuses.Status.TheVariants as status
use Rattle.run_report.specs.declared.records.RunRecord.{RunRecord}
use Rattle.script_text.specs.declared.steps.Script.{Script}

pub leaves_by : (Is : Script → Type 0) (text : List ℕ) (old new : Option (List ℕ)) (risen same : Type 0) (ended : Status) (run : RunRecord) → IsCarriedOut Is run → All HasLawfulJournal run.engine.sessions
    → Writes text old new risen same ended → Leaves Is ended run
leaves_by Is text old new risen same status.Ok run out journals writes = out
leaves_by Is text old new risen same status.WriteFault run out journals writes = out
leaves_by Is text old new risen same status.OutOfMemory run out journals writes = record { lawful = journals; is = inr (inr out) }
leaves_by Is text old new risen same status.Usage run out journals writes = absurd writes
leaves_by Is text old new risen same status.ReadFault run out journals writes = absurd writes
leaves_by Is text old new risen same (status.ScriptFault line kind) run out journals writes = absurd writes
leaves_by Is text old new risen same status.ListenFault run out journals writes = absurd writes
leaves_by Is text old new risen same (status.TurnsSpent turns library) run out journals writes = absurd writes

pub cut_by : (refuses : Status → Type 0) (text : List ℕ) (old new : Option (List ℕ)) (risen same : Type 0) (ended : Status) → ended ≡ status.WriteFault → EndsSo refuses text old new risen same ended → HasTakenPrefix old text new
cut_by refuses text old new risen same ended is ends = (subst (λ (s : Status). EndsSo refuses text old new risen same s) is ends).0
