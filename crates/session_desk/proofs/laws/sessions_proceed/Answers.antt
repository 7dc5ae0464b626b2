use Rattle.std.proofs.Common.{ℕ}
use Rattle.switchboard.specs.Board.{connection_at}
use Rattle.session_desk.proofs.Proceeding.{further, goes_on_itself, noted_stay, routes_stay, same_bytes}
use Rattle.session_desk.proofs.laws.sessions_proceed.Goals as goal

pub returns-clause-itself : goal.returns-clause-itself
returns-clause-itself c = λ board. record {
  goes_on = c.boards_go_on.ensures.itself board;
  leases = λ s. goes_on_itself board s;
  bytes = λ k within. same_bytes (connection_at board k);
}

pub returns-clause-further : goal.returns-clause-further
returns-clause-further c = further c.boards_go_on.ensures.further

pub returns-clause-happening : goal.returns-clause-happening
returns-clause-happening c = λ before happening old new apart quiet is ready. record {
  goes_on = c.boards_go_on.ensures.happening happening old new is;
  leases = c.boards_stay_in_step.ensures.goes_on happening old new apart is;
  bytes = c.boards_go_on.ensures.quiet before happening old new quiet is ready;
}

pub returns-clause-routes : goal.returns-clause-routes
returns-clause-routes c = routes_stay

pub returns-clause-noted : goal.returns-clause-noted
returns-clause-noted c = noted_stay
