use Rattle.std.proofs.Common.{refl, ap}
use Rattle.lease_words.specs.Views.{EngineView}
use Rattle.desk_tests.proofs.RunningLemmas.{Laws, keeps_notes, proceeds}
use Rattle.desk_tests.proofs.counterparty.end.Goals as goal

pub returns : goal.returns
returns c =
    let laws : Laws = record { routes = c.sessions_proceed.ensures.routes; noted = c.sessions_proceed.ensures.noted; cursors = c.cursors_stay.ensures.boards } in
    let was = c.args.desk.now in
    record {
      running = keeps_notes laws c.args._shared.now was _ refl refl refl refl
          (proceeds was.libraries.desk c.part.new.desk c.in_ok-part.ensures.steady c.in_ok-part.ensures.proceeds (ap (λ (v : EngineView). v.table) c.part.ensures.seat)) c.requires.running;
    }
