use Rattle.std.proofs.Common.{[], ◌∷◌, refl}
use Rattle.lease_desk.specs.Desk.{bodies_of}
use Rattle.switchboard.specs.Happenings.{reserves, shows}
use Rattle.desk_tests.proofs.RunningLemmas.{Laws, RunLaws, keeps_notes, reaches}
use Rattle.desk_tests.proofs.engine.gather.Goals as goal

pub returns : goal.returns
returns c =
    let laws : Laws = record { routes = c.sessions_proceed.ensures.routes; noted = c.sessions_proceed.ensures.noted; cursors = c.cursors_stay.ensures.boards } in
    let runs : RunLaws = record { ready = c.boards_stay_ready.ensures.run; goes_on = c.boards_go_on.ensures.run } in
    let was = c.args.desk.now in
    let gathers = c.in_ok-gather.ensures.gathers in
    let happenings = reserves c.args.s ∷ shows c.args.s gathers.word (bodies_of gathers.items) c.args.at c.args.until ∷ [] in
    record {
      running = keeps_notes laws c.args.shared.now was _ refl refl refl refl
          (reaches runs happenings was.libraries.desk c.gather.new.self gathers.reaches (c.gather.ensures.in_step c.requires.running.steady.in_step) c.gather.ensures.goes_on c.gather.ensures.table c.requires.running.steady)
          c.requires.running;
    }
