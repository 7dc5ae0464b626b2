use Rattle.std.proofs.Common.{inr}
use Rattle.session_desk.proofs.Stopping.{on_err}
use Rattle.session_desk.proofs.dialling.dial.Goals as goal

pub returns-clause-dials : goal.returns-clause-dials
returns-clause-dials c = record {
  gathered = c.gather.new.desk;
  gathers = c.in_ok-gather.ensures.gathers;
  dials = c.in_ok-k.ensures.happens;
  seat = c.bind_next.ensures.seat;
}

pub returns-clause-proceeds : goal.returns-clause-proceeds
returns-clause-proceeds c = c.sessions_proceed.ensures.further c.args.desk.now.board c.gather.new.desk.board c.bind_next.new.desk.board c.in_ok-gather.ensures.proceeds c.in_ok-k.ensures.proceeds

pub returns-in_err-k-clause-stops : goal.returns-in_err-k-clause-stops
returns-in_err-k-clause-stops c = on_err c.from_residual-in_err-k.result (inr (c.gather.new.desk, (c.in_ok-gather.ensures.gathers, c.in_err-k.ensures.stops)))
