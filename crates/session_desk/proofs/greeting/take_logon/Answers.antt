use Rattle.std.proofs.Common.{None, Some, refl, sym, subst, ◌∙◌}
use Rattle.lease_desk.specs.Desk.{IsInStep}
use Rattle.switchboard.specs.Happenings.{Happens, binds, binds_and_ends}
use Rattle.session_desk.proofs.Stopping.{on_err}
use Rattle.session_desk.proofs.greeting.take_logon.Goals as goal

pub returns-in-None-clause-steady : goal.returns-in-None-clause-steady
returns-in-None-clause-steady c =
    let run = c.requires.steady.run in
    let old = c.args.desk.now.board in
    let new = c.open.new.desk.board in
    let event = binds c.args.s c.args.k c.args.body.items c.args.at in
    let happens = c.in_ok-end.ensures.happens c.in-None.is in
    record {
      run = record { before = run.before; ready = c.boards_stay_ready.ensures.happening run.before event old new happens run.ready };
      in_step = subst (λ v. IsInStep new v) (sym c.open.ensures.seat) (c.boards_stay_in_step.ensures.step run.before event old new c.args.desk.now.seat refl happens run.ready c.requires.steady.in_step);
    }

pub returns-in-None-clause-proceeds : goal.returns-in-None-clause-proceeds
returns-in-None-clause-proceeds c =
    let run = c.requires.steady.run in
    c.sessions_proceed.ensures.happening run.before (binds c.args.s c.args.k c.args.body.items c.args.at) c.args.desk.now.board c.open.new.desk.board refl refl (c.in_ok-end.ensures.happens c.in-None.is) run.ready

ended : (c : goal.In_ok-leave-in-Some) → Happens (binds_and_ends c.args.s c.args.k c.args.body.items c.args.at c.in-Some.cause) c.args.desk.now.board c.leave.new.desk.board
ended c =
    c.boards_stay_ready.ensures.ends c.args.s c.args.k c.args.body.items c.args.at c.in-Some.cause c.args.desk.now.board c.open.new.desk.board c.leave.new.desk.board c.in_ok-end.ensures.binds
    (sym c.in_ok-end.ensures.end ∙ c.in-Some.is) c.in_ok-leave-in-Some.ensures.happens

pub returns-in_ok-leave-in-Some-clause-steady : goal.returns-in_ok-leave-in-Some-clause-steady
returns-in_ok-leave-in-Some-clause-steady c =
    let run = c.requires.steady.run in
    let old = c.args.desk.now.board in
    let new = c.leave.new.desk.board in
    let event = binds_and_ends c.args.s c.args.k c.args.body.items c.args.at c.in-Some.cause in
    record {
      run = record { before = run.before; ready = c.boards_stay_ready.ensures.happening run.before event old new (ended c) run.ready };
      in_step = subst (λ v. IsInStep new v) (sym (c.leave.ensures.seat ∙ c.open.ensures.seat)) (c.boards_stay_in_step.ensures.step run.before event old new c.args.desk.now.seat refl (ended c) run.ready c.requires.steady.in_step);
    }

pub returns-in_ok-leave-in-Some-clause-proceeds : goal.returns-in_ok-leave-in-Some-clause-proceeds
returns-in_ok-leave-in-Some-clause-proceeds c =
    let run = c.requires.steady.run in
    c.sessions_proceed.ensures.happening run.before (binds_and_ends c.args.s c.args.k c.args.body.items c.args.at c.in-Some.cause) c.args.desk.now.board c.leave.new.desk.board refl refl (ended c) run.ready

pub returns-in_ok-leave-in-Some-clause-agree : goal.returns-in_ok-leave-in-Some-clause-agree
returns-in_ok-leave-in-Some-clause-agree c = (returns-in_ok-leave-in-Some-clause-steady c).in_step.agree

pub returns-in_err-leave-in-Some-clause-stops : goal.returns-in_err-leave-in-Some-clause-stops
returns-in_err-leave-in-Some-clause-stops c =
    on_err c.from_residual-in_err-leave-in-Some.result
    (c.stops_are_told.ensures.binds c.args.s c.args.k c.args.body.items c.args.at c.args.desk.now.board c.open.new.desk.board c.leave.new.desk.board c.in_ok-end.ensures.binds c.in_err-leave-in-Some.ensures.nothing)
