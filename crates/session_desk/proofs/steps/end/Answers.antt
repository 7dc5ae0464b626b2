use Rattle.std.proofs.Common.{None, refl}
use Rattle.switchboard.specs.Happenings.{ends_bound}
use Rattle.session_desk.proofs.Agreeing.{Laws, agree_on, same_keeps}
use Rattle.session_desk.proofs.steps.end.Goals as goal

pub returns-in_err-end_bound-clause-agree : goal.returns-in_err-end_bound-clause-agree
returns-in_err-end_bound-clause-agree c =
    let old = c.args.desk.now.board in
    let new = c.end_bound.new.self in
    let laws : Laws = record { session = c.agreement_stays.ensures.session; desk = c.others_stay.ensures.desk } in
    let err = c.in_err-end_bound.ensures.err in
    agree_on laws c.args.s None old new c.args.desk.now.seat err.1 (same_keeps _ _ err.0) c.requires.steady.in_step.agree

pub returns-clause-steady : goal.returns-clause-steady
returns-clause-steady c =
    let run = c.requires.steady.run in
    let old = c.args.desk.now.board in
    let new = c.end_bound.new.self in
    let event = ends_bound c.args.s c.args.k c.args.cause in
    let happens = c.in_ok-end_bound.ensures.happens c.requires.placed in
    record {
      run = record { before = run.before; ready = c.boards_stay_ready.ensures.happening run.before event old new happens run.ready };
      in_step = c.boards_stay_in_step.ensures.step run.before event old new c.args.desk.now.seat refl happens run.ready c.requires.steady.in_step;
    }

pub returns-clause-agree : goal.returns-clause-agree
returns-clause-agree c = (returns-clause-steady c).in_step.agree

pub returns-clause-proceeds : goal.returns-clause-proceeds
returns-clause-proceeds c =
    let run = c.requires.steady.run in
    c.sessions_proceed.ensures.happening run.before (ends_bound c.args.s c.args.k c.args.cause) c.args.desk.now.board c.end_bound.new.self refl refl (c.in_ok-end_bound.ensures.happens c.requires.placed) run.ready
