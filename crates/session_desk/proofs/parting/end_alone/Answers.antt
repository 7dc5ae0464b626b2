use Rattle.std.proofs.Common.{refl}
use Rattle.switchboard.specs.Happenings.{ends_unbound}
use Rattle.session_desk.proofs.parting.end_alone.Goals as goal

pub returns-clause-steady : goal.returns-clause-steady
returns-clause-steady c =
    let run = c.requires.steady.run in
    let old = c.args.desk.now.board in
    let new = c.end_unbound.new.self in
    let event = ends_unbound c.args.k c.args.cause in
    let happens = c.end_unbound.ensures.happens c.requires.unbound in
    record {
      run = record { before = run.before; ready = c.boards_stay_ready.ensures.happening run.before event old new happens run.ready };
      in_step = c.boards_stay_in_step.ensures.step run.before event old new c.args.desk.now.seat refl happens run.ready c.requires.steady.in_step;
    }

pub returns-clause-proceeds : goal.returns-clause-proceeds
returns-clause-proceeds c =
    let run = c.requires.steady.run in
    c.sessions_proceed.ensures.happening run.before (ends_unbound c.args.k c.args.cause) c.args.desk.now.board c.end_unbound.new.self refl refl (c.end_unbound.ensures.happens c.requires.unbound) run.ready
