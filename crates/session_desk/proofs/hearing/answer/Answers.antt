use Rattle.std.proofs.Common.{refl}
use Rattle.switchboard.specs.Happenings.{answers}
use Rattle.session_desk.proofs.hearing.answer.Goals as goal

pub returns-clause-steady : goal.returns-clause-steady
returns-clause-steady c =
    let run = c.requires.steady.run in
    let old = c.args.desk.now.board in
    let new = c.answer.new.self in
    let event = answers c.args.k in
    record {
      run = record { before = run.before; ready = c.boards_stay_ready.ensures.happening run.before event old new c.answer.ensures.happens run.ready };
      in_step = c.boards_stay_in_step.ensures.step run.before event old new c.args.desk.now.seat refl c.answer.ensures.happens run.ready c.requires.steady.in_step;
    }
