use Rattle.std.proofs.Common.{inl, inr, ◌∙◌}
use Rattle.session_desk.proofs.Stopping.{on_err}
use Rattle.session_desk.proofs.hearing.hear.Goals as goal

pub returns-clause-hears : goal.returns-clause-hears
returns-clause-hears c = record {
  gathered = c.gather.new.desk;
  gathers = c.in_ok-gather.ensures.gathers;
  notes = c.in_ok-note.ensures.ok;
  end_is = c.in_ok-end.ensures.end;
  follows = (c.take_message.new.desk.board, (c.in_ok-end.ensures.happens, c.in_ok-settle.ensures.follows));
  seat = c.settle.ensures.seat ∙ c.take_message.ensures.seat;
}

pub returns-clause-proceeds : goal.returns-clause-proceeds
returns-clause-proceeds c =
    let further = c.sessions_proceed.ensures.further in
    let gathered = c.gather.new.desk.board in
    let heard = c.take_message.new.desk.board in
    let new = c.settle.new.desk.board in
    further c.args.desk.now.board gathered new c.in_ok-gather.ensures.proceeds (further gathered heard new c.in_ok-end.ensures.proceeds c.in_ok-settle.ensures.proceeds)

pub returns-clause-noted : goal.returns-clause-noted
returns-clause-noted c =
    let gathered = c.gather.new.desk.board in
    let heard = c.take_message.new.desk.board in
    let new = c.settle.new.desk.board in
    c.sessions_proceed.ensures.noted gathered new c.note.new.unkept.items
    (c.sessions_proceed.ensures.further gathered heard new c.in_ok-end.ensures.proceeds c.in_ok-settle.ensures.proceeds).goes_on c.note.ensures.noted

pub returns-in_err-note-clause-stops : goal.returns-in_err-note-clause-stops
returns-in_err-note-clause-stops c =
    on_err c.from_residual-in_err-note.result (inr (c.gather.new.desk, (c.in_ok-gather.ensures.gathers, inl (c.stops_are_told.ensures.itself c.gather.new.desk.board))))

pub returns-in_err-end-clause-stops : goal.returns-in_err-end-clause-stops
returns-in_err-end-clause-stops c = on_err c.from_residual-in_err-end.result (inr (c.gather.new.desk, (c.in_ok-gather.ensures.gathers, c.in_err-end.ensures.stops)))

pub returns-in_err-settle-clause-stops : goal.returns-in_err-settle-clause-stops
returns-in_err-settle-clause-stops c =
    let gathered = c.gather.new.desk in
    let stops = c.stops_are_told.ensures.receives c.args.s c.args.k c.args.body.items c.args.at gathered.board c.take_message.new.desk.board c.settle.new.desk.board c.in_ok-end.ensures.happens c.in_err-settle.ensures.nothing in
    on_err c.from_residual-in_err-settle.result (inr (gathered, (c.in_ok-gather.ensures.gathers, stops)))
