use Rattle.std.proofs.Common.{inl, inr, sym, subst}
use Rattle.std.proofs.lemmas.Result.{IfErr-weaker}
use Rattle.run_report.specs.declared.records.RunRecord.{RunRecord}
use Rattle.script_run.proofs.Seated.{if_ok}
use Rattle.script_run.specs.Means.{LeadsTo, Leaves}
use Rattle.script_run.specs.Stops.{LeadsInPart, LeavesInPart}
use Rattle.script_run.proofs.carrying.carry_to_end.Goals as goal
use Rattle.script_run.proofs.carrying.carry_to_end.Goals.{in-Ok-leave, in-Ok-leave-2}

pub returns-in-Ok-clause-leads : goal.returns-in-Ok-clause-leads
returns-in-Ok-clause-leads c =
    if_ok (Leaves c.carry_all.new.self) (LeadsTo c.args.steps.now c.args.run) c.leave.result
    (λ left leaves. record { last = c.carry_all.new.self; carries = c.in-Ok.ensures.carries; leaves = leaves }) c.leave.ensures.leaves

pub returns-in-Ok-clause-in_part : goal.returns-in-Ok-clause-in_part
returns-in-Ok-clause-in_part c =
    IfErr-weaker c.leave.result (λ e. LeavesInPart c.carry_all.new.self e.1) (λ e. LeadsInPart c.args.steps.now c.args.run e.1)
    (λ e leaves. record { last = c.carry_all.new.self; carries = inl c.in-Ok.ensures.carries; leaves = leaves }) c.leave.ensures.in_part

pub returns-in-Ok-leave-clause-in_part : goal.returns-in-Ok-leave-clause-in_part
returns-in-Ok-leave-clause-in_part c = record {
  last = c.carry_all.new.self;
  carries = inr c.in-Err.ensures.stops;
  leaves = elim c.in-Ok-leave-1.branch [
    | in-Ok-leave w ↦ subst (λ (left : RunRecord). LeavesInPart c.carry_all.new.self left) (sym w.left-is) w.in-Ok-leave.ensures.whole
    | in-Ok-leave-2 w ↦ subst (λ (left : RunRecord). LeavesInPart c.carry_all.new.self left) (sym w.left-is) w.in-Ok-leave.ensures.in_part
  ];
}
