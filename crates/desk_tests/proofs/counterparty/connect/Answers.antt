use Rattle.std.proofs.Common.{refl, rules}
use Rattle.switchboard.specs.Happenings.{accepts}
use Rattle.desk_tests.proofs.RunningLemmas.{Laws, StepLaws, happens, keeps_notes}
use Rattle.desk_tests.proofs.counterparty.connect.Goals as goal

pub returns : goal.returns
returns c =
    let laws : Laws = record { routes = c.sessions_proceed.ensures.routes; noted = c.sessions_proceed.ensures.noted; cursors = c.cursors_stay.ensures.boards } in
    let steps : StepLaws = record { ready = c.boards_stay_ready.ensures.happening; goes_on = c.boards_go_on.ensures.happening; in_step = c.boards_stay_in_step.ensures.step; leases = c.boards_stay_in_step.ensures.goes_on } in
    let was = c.args.desk.now in
    record {
      running = keeps_notes laws c.args._shared.now was _ refl refl refl refl
          (happens steps (accepts c.unwrap_or-number.result c.args.at) was.libraries.desk _ refl (c.in_ok-accept.ensures.happens (c.is_new.ensures (search rules))) refl c.requires.running.steady) c.requires.running;
    }
