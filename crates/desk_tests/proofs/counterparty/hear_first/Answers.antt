use Rattle.std.proofs.Common.{refl}
use Rattle.desk_tests.proofs.RunningLemmas.{Laws, keeps, proceeds}
use Rattle.desk_tests.proofs.counterparty.hear_first.Goals as goal

pub returns : goal.returns
returns c =
    let laws : Laws = record { routes = c.sessions_proceed.ensures.routes; noted = c.sessions_proceed.ensures.noted; cursors = c.cursors_stay.ensures.boards } in
    let was = c.args.desk.now in
    record {
      running = keeps laws c.args.shared.now was _ refl refl refl c.in_ok-end.ensures.noted (proceeds was.libraries.desk c.greet.new.desk c.in_ok-end.ensures.steady c.in_ok-end.ensures.proceeds c.greet.ensures.table) c.requires.running;
    }
