use Rattle.std.proofs.Common.{refl}
use Rattle.switchboard.specs.Happenings.{takes}
use Rattle.wire_desk.proofs.reading.take_in.Goals as goal

pub returns-clause-steady : goal.returns-clause-steady
returns-clause-steady c =
    let run = c.requires.steady.run in
    let old = c.args.desk.now.board in
    let new = c.take_in.new.self in
    let event = takes c.args.k c.args.bytes.now in
    let happens = c.in_ok-take_in.ensures.happens in
    record {
      run = record { before = run.before; ready = c.boards_stay_ready.ensures.happening run.before event old new happens run.ready };
      in_step = c.boards_stay_in_step.ensures.step run.before event old new c.args.desk.now.seat refl happens run.ready c.requires.steady.in_step;
    }
