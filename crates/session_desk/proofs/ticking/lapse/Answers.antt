use Rattle.std.proofs.Common.{refl}
use Rattle.switchboard.specs.Happenings.{lapses}
use Rattle.session_desk.proofs.Agreeing.{Laws, agree_alone, same_keeps}
use Rattle.session_desk.proofs.ticking.lapse.Goals as goal

pub returns-in_err-lapse-in-Some-clause-agree : goal.returns-in_err-lapse-in-Some-clause-agree
returns-in_err-lapse-in-Some-clause-agree c =
    agree_alone c.agreement_stays.ensures.session c.others_stay.ensures.session c.args.s c.args.desk.now.board c.lapse.new.self c.args.desk.now.seat c.lapse.ensures.others (same_keeps _ _ c.in_err-lapse-in-Some.ensures.err) c.requires.steady.in_step.agree

pub returns-in_ok-lapse-in-Some-clause-steady : goal.returns-in_ok-lapse-in-Some-clause-steady
returns-in_ok-lapse-in-Some-clause-steady c =
    let run = c.requires.steady.run in
    let old = c.args.desk.now.board in
    let new = c.lapse.new.self in
    let event = lapses c.args.s in
    record {
      run = record { before = run.before; ready = c.boards_stay_ready.ensures.happening run.before event old new c.in_ok-lapse-in-Some.ensures.happens run.ready };
      in_step = c.boards_stay_in_step.ensures.step run.before event old new c.args.desk.now.seat refl c.in_ok-lapse-in-Some.ensures.happens run.ready c.requires.steady.in_step;
    }

pub returns-in_ok-lapse-in-Some-clause-agree : goal.returns-in_ok-lapse-in-Some-clause-agree
returns-in_ok-lapse-in-Some-clause-agree c = (returns-in_ok-lapse-in-Some-clause-steady c).in_step.agree

pub returns-in_ok-lapse-in-Some-clause-proceeds : goal.returns-in_ok-lapse-in-Some-clause-proceeds
returns-in_ok-lapse-in-Some-clause-proceeds c =
    let run = c.requires.steady.run in
    c.sessions_proceed.ensures.happening run.before (lapses c.args.s) c.args.desk.now.board c.lapse.new.self refl refl (c.in_ok-lapse-in-Some.ensures.happens) run.ready
