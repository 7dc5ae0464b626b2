use Rattle.std.proofs.Common.{refl}
use Rattle.switchboard.specs.Happenings.{prepares}
use Rattle.desk_tests.proofs.RunningLemmas.{Laws, StepLaws, happens, keeps_notes}
use Rattle.desk_tests.proofs.engine.prepare.Goals as goal

pub prepare-requires-clause-named : goal.prepare-requires-clause-named
prepare-requires-clause-named c =
    let run = c.requires.running.steady.run in
    c.ready_boards_allow.ensures.named run.before c.args.desk.now.libraries.desk.board c.args.s c.args.k run.ready c.requires.connection c.requires.named

pub returns : goal.returns
returns c =
    let laws : Laws = record { routes = c.sessions_proceed.ensures.routes; noted = c.sessions_proceed.ensures.noted; cursors = c.cursors_stay.ensures.boards } in
    let steps : StepLaws = record { ready = c.boards_stay_ready.ensures.happening; goes_on = c.boards_go_on.ensures.happening; in_step = c.boards_stay_in_step.ensures.step; leases = c.boards_stay_in_step.ensures.goes_on } in
    let was = c.args.desk.now in
    record {
      running = keeps_notes laws c.args._shared.now was _ refl refl refl refl
          (happens steps (prepares c.args.s c.args.k) was.libraries.desk _ refl (c.prepare.ensures.happens c.requires.named) refl c.requires.running.steady) c.requires.running;
    }
