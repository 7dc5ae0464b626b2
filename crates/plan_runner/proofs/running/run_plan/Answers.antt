use Rattle.std.proofs.Common.{◌≤◌, List, ap, subst, sym, arith}
use Rattle.library_api.specs.Waits.{most_waits}
use Rattle.run_report.specs.declared.calls.Call.{Call}
use Rattle.run_report.specs.declared.records.LibReport.{LibReport}
use Rattle.plan_runner.specs.Calls.{StandCalls}
use Rattle.plan_runner.specs.Stages.{stage_of}
use Rattle.plan_runner.specs.Turns.{Stage}
use Rattle.plan_runner.specs.declared.work.Work.{Work}
use Rattle.plan_runner.proofs.Runs.{part_calls, part_idles, part_waits, whole_calls}
use Rattle.plan_runner.proofs.Stages.{runs_plan}
use Rattle.plan_runner.proofs.Told.{stand_calls}
use Rattle.plan_runner.proofs.running.run_plan.Goals as goal

pub returns-in-Ok-clause-runs : goal.returns-in-Ok-clause-runs
returns-in-Ok-clause-runs g c =
    let rest = c.carry_all-outcome.ensures.rest in
    let work = c.carry_all-outcome.new.self in
    let first : Stage = record { library = c.args.library.now; calls = c.new.result.items; left = 0 } in
    runs_plan c.in-Ok.finished _ _ _ work.turns work.number _ _ _ first (stage_of c.carry_all-outcome.new.library work) c.end.result
    (ap (λ (calls : List Call). record { library = c.args.library.now; calls = calls; left = 0 }) c.new.ensures.items)
    (ap (λ (w : Work). w.turns) rest) (ap (λ (w : Work). w.number) rest) c.end.ensures.report c.in-Ok.ensures.carries c.in-Ok.ensures.given_up c.end.ensures.tells

pub returns-in-Ok-clause-calls : goal.returns-in-Ok-clause-calls
returns-in-Ok-clause-calls g c = whole_calls _ _ _ _ _ _ _ (returns-in-Ok-clause-runs g c)

pub returns-in-Ok-clause-calls_given_up : goal.returns-in-Ok-clause-calls_given_up
returns-in-Ok-clause-calls_given_up g c = part_calls _ _ _ _ _ _ _ (returns-in-Ok-clause-runs g c)

pub returns-in-Ok-clause-waited : goal.returns-in-Ok-clause-waited
returns-in-Ok-clause-waited g c =
    let most : c.args.turns ≤ most_waits = omega (arith, c.ranges.turns.fits) in
    part_waits _ _ _ _ _ _ _ c.requires.turns most (returns-in-Ok-clause-runs g c)

pub returns-in-Err-clause-calls_short : goal.returns-in-Err-clause-calls_short
returns-in-Err-clause-calls_short g c =
    let few = c.in-Err.ensures.short in
    subst (λ (calls : List Call). StandCalls c.args.number c.args.plan.now calls) (sym (ap (λ (r : LibReport). r.calls) c.end-in-Err.ensures.report))
    (stand_calls _ _ _ _ few.waits _ (stage_of c.carry_all-outcome.new.library c.carry_all-outcome.new.self) c.new.ensures.items few.stands)

pub returns-in-Ok-clause-counts : goal.returns-in-Ok-clause-counts
returns-in-Ok-clause-counts g c =
    let most : c.args.turns ≤ most_waits = omega (arith, c.ranges.turns.fits) in
    part_idles _ _ _ _ _ _ _ c.requires.turns most (returns-in-Ok-clause-runs g c)
