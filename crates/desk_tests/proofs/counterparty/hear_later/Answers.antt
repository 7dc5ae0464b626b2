use Rattle.std.proofs.Common.{refl, arith}
use Rattle.desk_tests.proofs.RunningLemmas.{Laws, keeps, none_is, proceeds}
use Rattle.desk_tests.proofs.counterparty.hear_later.Goals as goal

pub hear-requires-clause-session : goal.hear-requires-clause-session
hear-requires-clause-session c =
    let run = c.requires.running.steady.run in
    (c.ready_boards_allow.ensures.alone run.before c.args.desk.now.libraries.desk.board c.args.k c.args.s run.ready c.requires.connection c.requires.named (none_is _ c.requires.stands)).0

pub hear-requires-clause-seated : goal.hear-requires-clause-seated
hear-requires-clause-seated c =
    let within = hear-requires-clause-session c in
    let linked = c.requires.running.linked.sessions in
    omega arith

pub returns : goal.returns
returns c =
    let laws : Laws = record { routes = c.sessions_proceed.ensures.routes; noted = c.sessions_proceed.ensures.noted; cursors = c.cursors_stay.ensures.boards } in
    let was = c.args.desk.now in
    record {
      running = keeps laws c.args.shared.now was _ refl refl refl c.in_ok-end.ensures.noted (proceeds was.libraries.desk c.hear.new.desk c.in_ok-end.ensures.steady c.in_ok-end.ensures.proceeds c.hear.ensures.table) c.requires.running;
    }
