use Rattle.std.proofs.Common.{refl}
use Rattle.desk_tests.proofs.RunningLemmas.{Laws, keeps_notes, proceeds}
use Rattle.desk_tests.proofs.engine.dial.Goals as goal

pub returns : goal.returns
returns c =
    let laws : Laws = record { routes = c.sessions_proceed.ensures.routes; noted = c.sessions_proceed.ensures.noted; cursors = c.cursors_stay.ensures.boards } in
    let was = c.args.desk.now in
    record {
      running = keeps_notes laws c.args.shared.now was _ refl refl refl refl (proceeds was.libraries.desk c.dial.new.desk c.in_ok-dial.ensures.steady c.in_ok-dial.ensures.proceeds c.dial.ensures.table) c.requires.running;
    }
