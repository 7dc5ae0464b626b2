use Rattle.std.proofs.Common.{refl}
use Rattle.switchboard.specs.Board.{desk_at, place_at}
use Rattle.switchboard.specs.Happenings.{ticks}
use Rattle.session_desk.proofs.Agreeing.{Laws, agree_on, begun_keeps}
use Rattle.session_desk.proofs.ticking.take_tick.Goals as goal

pub returns-in_err-end-clause-agree : goal.returns-in_err-end-clause-agree
returns-in_err-end-clause-agree c =
    let old = c.args.desk.now.board in
    let new = c.tick.new.self in
    let laws : Laws = record { session = c.agreement_stays.ensures.session; desk = c.others_stay.ensures.desk } in
    agree_on laws c.args.s (place_at old c.args.s) old new c.args.desk.now.seat c.tick.ensures.others
    (begun_keeps c.leases_stay.ensures.begun c.sessions_go_on.ensures.begun c.args.at _ (desk_at old c.args.s) (desk_at new c.args.s) _ c.in_err-end.ensures.begun)
    c.requires.steady.in_step.agree

pub returns-clause-steady : goal.returns-clause-steady
returns-clause-steady c =
    let run = c.requires.steady.run in
    let old = c.args.desk.now.board in
    let new = c.tick.new.self in
    let event = ticks c.args.s c.args.at in
    record {
      run = record { before = run.before; ready = c.boards_stay_ready.ensures.happening run.before event old new c.in_ok-end.ensures.happens run.ready };
      in_step = c.boards_stay_in_step.ensures.step run.before event old new c.args.desk.now.seat refl c.in_ok-end.ensures.happens run.ready c.requires.steady.in_step;
    }

pub returns-clause-agree : goal.returns-clause-agree
returns-clause-agree c = (returns-clause-steady c).in_step.agree

pub returns-clause-proceeds : goal.returns-clause-proceeds
returns-clause-proceeds c =
    let run = c.requires.steady.run in
    c.sessions_proceed.ensures.happening run.before (ticks c.args.s c.args.at) c.args.desk.now.board c.tick.new.self refl refl (c.in_ok-end.ensures.happens) run.ready
