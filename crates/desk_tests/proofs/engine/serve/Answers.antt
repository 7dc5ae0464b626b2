use Rattle.std.proofs.Common.{refl}
use Rattle.desk_tests.proofs.RunningLemmas.{Laws, serves}
use Rattle.desk_tests.proofs.engine.serve.Goals as goal

pub returns : goal.returns
returns c =
    let laws : Laws = record { routes = c.sessions_proceed.ensures.routes; noted = c.sessions_proceed.ensures.noted; cursors = c.cursors_stay.ensures.boards } in
    let was = c.args.desk.now in
    let run = c.requires.running.steady.run in
    let old = was.libraries.desk.board in
    let next = c.serve.new.self in
    let runs = c.serving_happens.ensures.serves c.args.library c.args.at c.args.until was.libraries next c.in_ok-turn.turn c.in_ok-turn.ensures.serves in
    record {
      running = serves laws c.args.shared.now was _ refl refl refl (c.boards_go_on.ensures.run runs.happenings old next.desk.board runs.reaches)
          (record {
            run = record { before = run.before; ready = c.serving_happens.ensures.ready run.before c.args.at old next.desk.board runs run.ready };
            in_step = c.serve.ensures.ready.in_step;
          })
          c.serve.ensures.linked c.serve.ensures.ready c.requires.running;
    }
