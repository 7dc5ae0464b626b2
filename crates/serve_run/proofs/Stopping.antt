-- A run for which memory is wanting.
use Rattle.std.proofs.Common.{◌≡◌, ◌⊎◌, inl, inr, ℕ, Bool, List, map, Result, Ok, Err, refl, subst, sym}
use Rattle.std.proofs.lemmas.Result.{err_from_is_err_and}
use Rattle.std.specs.Prelude.{IfErr, IfOk, IsErrAnd, OnErr}
use Rattle.engine_loop.specs.Turns.{AtWire, at_wire}
use Rattle.engine_loop.specs.declared.engine.Engine.{Engine}
use Rattle.gate_io.specs.Wire.{Door, Link}
use Rattle.run_report.specs.declared.records.RunRecord.{RunRecord}
use Rattle.engine_loop.specs.Leaving.{LeavesAsItStood}
use Rattle.serve_run.specs.Drives.{DrivesToEnd}
use Rattle.serve_run.specs.Meetings.{meeting_of}
use Rattle.serve_run.specs.Stops.{DrivesInPart, DrivesToAnEnd, LeavesInPart}
use Rattle.serve_run.specs.Workers.{report_of, seat_of}
use Rattle.serve_run.specs.declared.workers.Worker.{Worker}
use Rattle.serve_run.proofs.Drives.{reads_told}

-- what holds where memory was wanting
pub on_err : {T E P : Type 0} (r : Result T E) → P → OnErr r P
on_err (Ok x) holds = tt
on_err (Err e) holds = holds

pub if_same : {T E : Type 0} (Q : E → Type 0) (r : Result T E) (e : E) → IsErrAnd r (λ x. x ≡ e) → Q e → IfErr r Q
if_same Q r e same holds = let is = err_from_is_err_and r same in rw is.1 (subst Q (sym is.2) holds)

-- engine and libraries didn't meet
pub left_apart : (engine : Engine) (workers : List Worker) (left : RunRecord) → LeavesAsItStood (map seat_of workers) engine left.engine → left.libraries ≡ map report_of workers → LeavesInPart engine workers left
left_apart engine workers left leaves libraries = record { met = meeting_of engine workers; meets = inl refl; leaves = leaves; libraries = libraries }

-- the turns came to an end, or stopped
pub drove : {E : Type 0} (connections awaited libraries said most : ℕ) (ended : Result Bool E) (Read : List ℕ → Type 0) (old : AtWire) (new : Engine) (door : Door) (links : ℕ → Link) → connections ≡ awaited → libraries ≡ said
    → IfOk ended (λ over. DrivesToEnd connections libraries most over Read old (at_wire new door links)) → OnErr ended (DrivesInPart connections libraries most old new) → DrivesToAnEnd awaited said most old new ⊎ DrivesInPart awaited said most old new
drove {E} connections awaited libraries said most ended Read old new door links same_connections same_libraries drives stops =
    subst (λ n. DrivesToAnEnd n said most old new ⊎ DrivesInPart n said most old new) same_connections (subst (λ n. DrivesToAnEnd connections n most old new ⊎ DrivesInPart connections n most old new) same_libraries (by_end ended drives stops)) where
      by_end : (ended : Result Bool E) → IfOk ended (λ over. DrivesToEnd connections libraries most over Read old (at_wire new door links)) → OnErr ended (DrivesInPart connections libraries most old new)
          → DrivesToAnEnd connections libraries most old new ⊎ DrivesInPart connections libraries most old new
      by_end (Ok over) drives stops =
          inl (record { over = over; door = door; links = links; drives = reads_told connections libraries most over Read (λ readings. Unit {0}) old (at_wire new door links) (λ readings took. tt) drives })
      by_end (Err e) drives stops = inr stops
