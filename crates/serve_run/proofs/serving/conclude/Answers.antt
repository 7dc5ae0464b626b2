use Rattle.std.proofs.Common.{◌≡◌, inr, List, false, refl, ap, subst, sym, ◌∙◌}
use Rattle.std.specs.List.{All}
use Rattle.run_report.specs.declared.records.RunRecord.{RunRecord}
use Rattle.serve_run.specs.declared.workers.Worker.{Worker}
use Rattle.serve_run.specs.Meetings.{meeting_of}
use Rattle.serve_run.specs.Serves.{first_unfinished}
use Rattle.serve_run.specs.Stops.{LeavesInPart}
use Rattle.serve_run.proofs.Stopping.{if_same, left_apart}
use Rattle.serve_run.proofs.serving.conclude.Goals as goal
use Rattle.serve_run.proofs.serving.conclude.Goals.{then-over, else-over, in-Ok-leave, in-Ok-leave-2}

pub leave-requires-2-clause-engine : goal.leave-requires-2-clause-engine
leave-requires-2-clause-engine c = (c.requires.engine.0, c.requires.engine.1, c.meet_all.ensures.engine _ _ c.requires.engine.2)

pub returns-clause-concludes : goal.returns-clause-concludes
returns-clause-concludes c =
    rw c.in-Ok.is (record {
      whole = subst (λ (workers : List Worker). All (λ worker. worker.short ≡ false) workers) c.as_slice.ensures.value (c.if-is_short.ensures refl);
      met = meeting_of c.meet_all.new.engine c.meet_all.new.workers.items;
      meets = c.meet_all.ensures.meet;
      leaves = c.in_ok-left.ensures.leaves;
      spent_is = elim c.if-over.branch [
        | then-over w ↦ rw w.if-over.true (w.spent-is ∙ (w.first_unfinished-spent.ensures ∙ ap first_unfinished w.as_slice-then-over.ensures))
        | else-over w ↦ rw w.if-over.false w.spent-is
      ];
    })

pub returns-in-Err-clause-in_part : goal.returns-in-Err-clause-in_part
returns-in-Err-clause-in_part c = elim c.in-Ok-leave-1.branch [
  | in-Ok-leave w ↦ subst (λ (left : RunRecord). LeavesInPart c.args.engine c.args.workers.items left) (sym w.left-is) (left_apart c.args.engine c.args.workers.items w.in-Ok-leave.left w.in-Ok-leave.ensures.whole w.in-Ok-leave.ensures.leaves.libraries)
  | in-Ok-leave-2 w ↦ subst (λ (left : RunRecord). LeavesInPart c.args.engine c.args.workers.items left) (sym w.left-is) (left_apart c.args.engine c.args.workers.items w.in-Ok-leave.left w.in-Ok-leave.ensures.in_part w.in-Ok-leave.ensures.libraries)
]

pub returns-in_err-left-clause-in_part : goal.returns-in_err-left-clause-in_part
returns-in_err-left-clause-in_part c =
    let told = c.in_err-left.ensures in
    if_same (λ e. LeavesInPart c.args.engine c.args.workers.items e.1) c.from_residual.result c.in_err-left.field-0.0 c.from_residual.ensures.1
    (record { met = meeting_of c.meet_all.new.engine c.meet_all.new.workers.items; meets = inr c.meet_all.ensures.meet; leaves = told.in_part; libraries = told.libraries })

pub returns-then-is_short-clause-in_part : goal.returns-then-is_short-clause-in_part
returns-then-is_short-clause-in_part c = record {
  met = meeting_of c.meet_all.new.engine c.meet_all.new.workers.items;
  meets = inr c.meet_all.ensures.meet;
  leaves = c.in_ok-left.ensures.whole;
  libraries = c.in_ok-left.ensures.leaves.libraries;
}
