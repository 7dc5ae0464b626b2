use Rattle.std.proofs.Common.{◌≡◌, inl, inr, ◌∷◌, ◌≤◌, Bool, List, [], length, refl, ap, subst, sym, ◌∙◌, arith}
use Rattle.std.proofs.lemmas.Option.{slice_get-get_or}
use Rattle.std.proofs.lemmas.Result.{IfErr-weaker}
use Rattle.engine_loop.specs.Room.{Room}
use Rattle.engine_loop.specs.Turns.{at_wire}
use Rattle.gate_io.specs.Clock.{TakesReadings}
use Rattle.run_report.specs.declared.records.RunRecord.{RunRecord}
use Rattle.script_text.specs.declared.steps.Step.{Step}
use Rattle.serve_run.specs.Drives.{DrivesToEnd}
use Rattle.engine_loop.specs.Starts.{StartsEngineOf}
use Rattle.serve_run.specs.Serves.{Concludes}
use Rattle.serve_run.specs.Stops.{LeavesInPart}
use Rattle.serve_run.specs.Workers.{StartsWorkers}
use Rattle.serve_run.proofs.Drives.{drives_as, reads_told, takes_more}
use Rattle.serve_run.proofs.Stopping.{drove, left_apart}
use Rattle.serve_run.proofs.Working.{begun_is_ready, with_end}
use Rattle.serve_run.proofs.serving.serve_script.Goals as goal
use Rattle.serve_run.proofs.serving.serve_script.Goals.{in-Ok-leave, in-Ok-leave-2}

pub leave-requires-clause-engine : goal.leave-requires-clause-engine
leave-requires-clause-engine g c =
    let start = c.in-Ok-start.ensures in (
      g.W.Wire.door c.args.wire.now,
      g.W.Wire.link c.args.wire.now,
      record {
        agree = start.work.set_up.steady.in_step.agree;
        room = record {
          for_sessions = (let room = ap (λ (r : Room). r.sessions) start.figures.spare in let count = start.sessions.count in omega arith);
          for_connections = (let none = ap (λ cs. length cs) start.sessions.first.connections in omega arith);
        };
        work = λ going. start.work;
        online = λ going. start.online _ _ c.requires.accepted c.requires.dialled;
      },
    )

pub run_all-ended-requires-clause-engine : goal.run_all-ended-requires-clause-engine
run_all-ended-requires-clause-engine g c κs within =
    let start = c.in-Ok-start.ensures in
    record {
      agree = start.work.set_up.steady.in_step.agree;
      room = record {
        for_sessions = (let room = ap (λ (r : Room). r.sessions) start.figures.spare in let count = start.sessions.count in omega arith);
        for_connections = (let none = ap (λ cs. length cs) start.sessions.first.connections in omega arith);
      };
      work = λ going. start.work;
      online = λ going. start.online _ _ c.requires.accepted c.requires.dialled;
    }

pub run_all-ended-requires-clause-ready : goal.run_all-ended-requires-clause-ready
run_all-ended-requires-clause-ready g c κs within = λ k d inside. begun_is_ready _ _ _ k _ (c.in-Ok-planned.ensures.each k _ (slice_get-get_or c.in-Ok-planned.workers.items k d inside))

pub returns-clause-serves : goal.returns-clause-serves
returns-clause-serves g c =
    let start = c.in-Ok-start.ensures in
    let config = c.args.script.config in
    let shared = c.in-Ok-start.made.1 in
    let first = c.in-Ok-start.made.0 in
    let awaits = c.new-awaited.ensures.awaits in
    let ran = c.run_all-ended in
    with_end ran.result c.conclude.result (λ over served. Concludes over ran.new.engine ran.new.workers.items served.run served.spent)
    (λ over. DrivesToEnd c.new-awaited.result.connections c.new-awaited.result.libraries c.args.turns over (λ readings. TakesReadings g.C.Clock.has_read c.now.new.self readings ran.new.clock) (at_wire first (g.W.Wire.door c.args.wire.now) (g.W.Wire.link c.args.wire.now))
    (at_wire ran.new.engine (g.W.Wire.door ran.new.wire) (g.W.Wire.link ran.new.wire)))
    _ c.conclude.ensures.concludes c.conclude.ensures.ended ran.ensures.drives
    (λ over served drives concludes. record {
      shared = shared;
      reading = c.now.result;
      first = first;
      last = ran.new.engine;
      begun = c.in-Ok-planned.workers.items;
      worked = ran.new.workers.items;
      over = over;
      starts = subst (λ moment. StartsEngineOf config moment shared first) c.min-moment.ensures
          (record { sessions = start.sessions; table = start.table; desk = start.desk; ends = start.engine; routes = start.routes; lines = start.lines; dials = start.dials; figures = start.figures });
      libraries = subst (λ (steps : List Step). StartsWorkers config.asks config.libraries shared steps c.in-Ok-planned.workers.items) c.into_inner.ensures
          (subst (λ n. StartsWorkers config.asks n shared c.into_inner.result.items c.in-Ok-planned.workers.items) start.libraries.count c.in-Ok-planned.ensures);
      drives = reads_told _ _ c.args.turns over _ _ _ _ (λ readings took. takes_more g.C.Clock.has_read c.args.clock.now c.now.new.self ran.new.clock (c.now.result ∷ []) readings c.now.ensures.told took)
          (drives_as _ _ _ _ c.args.turns over _ _ _ awaits.connections_are (awaits.libraries_are ∙ c.from-libraries.ensures) drives);
      works = ran.ensures.work;
      concludes = concludes;
    })

pub returns-in-Err-planned-clause-in_part : goal.returns-in-Err-planned-clause-in_part
returns-in-Err-planned-clause-in_part g c =
    let start = c.in-Ok-start.ensures in
    let config = c.args.script.config in
    let shared = c.in-Ok-start.made.1 in
    let first = c.in-Ok-start.made.0 in
    let none = c.new-in-Err-planned.ensures.items in
    inr (record {
      shared = shared;
      reading = c.now.result;
      first = first;
      starts = subst (λ moment. StartsEngineOf config moment shared first) c.min-moment.ensures
          (record { sessions = start.sessions; table = start.table; desk = start.desk; ends = start.engine; routes = start.routes; lines = start.lines; dials = start.dials; figures = start.figures });
      runs = inl (elim c.in-Ok-leave-1.branch [
        | in-Ok-leave w ↦ subst (λ (left : RunRecord). LeavesInPart first [] left) (sym w.left-is) (rw none at (left_apart first c.new-in-Err-planned.result.items w.in-Ok-leave.left w.in-Ok-leave.ensures.whole w.in-Ok-leave.ensures.leaves.libraries))
        | in-Ok-leave-2 w ↦ subst (λ (left : RunRecord). LeavesInPart first [] left) (sym w.left-is) (rw none at (left_apart first c.new-in-Err-planned.result.items w.in-Ok-leave.left w.in-Ok-leave.ensures.in_part w.in-Ok-leave.ensures.libraries))
      ]);
    })

pub returns-clause-in_part : goal.returns-clause-in_part
returns-clause-in_part g c =
    let start = c.in-Ok-start.ensures in
    let config = c.args.script.config in
    let shared = c.in-Ok-start.made.1 in
    let first = c.in-Ok-start.made.0 in
    let awaits = c.new-awaited.ensures.awaits in
    let ran = c.run_all-ended in
    let old = at_wire first (g.W.Wire.door c.args.wire.now) (g.W.Wire.link c.args.wire.now) in
    IfErr-weaker c.conclude.result (λ e. LeavesInPart ran.new.engine ran.new.workers.items e.1) _ (λ e leaves. inr (record {
      shared = shared;
      reading = c.now.result;
      first = first;
      starts = subst (λ moment. StartsEngineOf config moment shared first) c.min-moment.ensures
          (record { sessions = start.sessions; table = start.table; desk = start.desk; ends = start.engine; routes = start.routes; lines = start.lines; dials = start.dials; figures = start.figures });
      runs = inr (record {
        last = ran.new.engine;
        begun = c.in-Ok-planned.workers.items;
        worked = ran.new.workers.items;
        libraries = subst (λ (steps : List Step). StartsWorkers config.asks config.libraries shared steps c.in-Ok-planned.workers.items) c.into_inner.ensures
            (subst (λ n. StartsWorkers config.asks n shared c.into_inner.result.items c.in-Ok-planned.workers.items) start.libraries.count c.in-Ok-planned.ensures);
        drives = drove _ _ _ _ c.args.turns ran.result (λ readings. TakesReadings g.C.Clock.has_read c.now.new.self readings ran.new.clock) old ran.new.engine (g.W.Wire.door ran.new.wire) (g.W.Wire.link ran.new.wire)
            awaits.connections_are (awaits.libraries_are ∙ c.from-libraries.ensures) ran.ensures.drives ran.ensures.stops;
        works = ran.ensures.work;
        leaves = leaves;
      });
    })) c.conclude.ensures.in_part
