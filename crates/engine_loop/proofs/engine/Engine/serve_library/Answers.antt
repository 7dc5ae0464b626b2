use Rattle.std.proofs.Common.{refl, sym, ◌∙◌}
use Rattle.session_desk.specs.Steps.{IsSteady}
use Rattle.engine_loop.proofs.Quiet.{Laws, still_run}
use Rattle.engine_loop.proofs.engine.Engine.serve_library.Goals as goal

pub returns-clause-work : goal.returns-clause-work
returns-clause-work c =
    let was = c.requires.work in
    let old = c.args.self.now.sessions in
    let new = c.serve.new.self in
    let runs = c.serving_happens.ensures.serves c.args.library c.args.self.now.moment c.until-until.result old new c.in_ok-turn.turn c.in_ok-turn.ensures.serves in
    let goes = c.boards_go_on.ensures.run runs.happenings old.desk.board new.desk.board runs.reaches in
    let run = was.set_up.steady.run in
    let lines = c.args.self.now.lines in
    let steady : IsSteady new.desk.board new.desk.seat = record {
      run = record { before = run.before; ready = c.serving_happens.ensures.ready run.before c.args.self.now.moment old.desk.board new.desk.board runs run.ready };
      in_step = c.serve.ensures.ready.in_step;
    } in
    record {
      linked = c.serve.ensures.linked;
      in_order = c.serve.ensures.ready;
      set_up = c.lines_progress.ensures.set_up c.args.shared.now.leases old.desk new.desk lines lines goes (c.serve.ensures.linked.table ∙ sym was.linked.table) refl refl
          (c.lines_progress.ensures.noted old.desk.board new.desk.board lines.unkept.items goes was.set_up.noted) steady was.set_up;
      moment = was.moment;
      most = was.most;
      few = was.few;
    }

pub returns-clause-online : goal.returns-clause-online
returns-clause-online c = λ door links was.
    let old = c.args.self.now.sessions in
    let new = c.serve.new.self in
    let runs = c.serving_happens.ensures.serves c.args.library c.args.self.now.moment c.until-until.result old new c.in_ok-turn.turn c.in_ok-turn.ensures.serves in
    let goes = c.boards_go_on.ensures.run runs.happenings old.desk.board new.desk.board runs.reaches in
    let run = c.requires.work.set_up.steady.run in
    let laws : Laws = record { quiet = c.boards_go_on.ensures.quiet; count = c.boards_go_on.ensures.count; ready = c.boards_stay_ready.ensures.happening } in
    let still = still_run laws run.before c.args.self.now.moment runs.happenings old.desk.board new.desk.board runs.all runs.reaches run.ready in
    c.engines_stay.ensures.still c.args.self.now _ door links goes still.count still.bytes refl refl refl refl refl refl was
