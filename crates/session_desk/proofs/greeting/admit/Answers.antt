use Rattle.std.proofs.Common.{inl, inr, List, ap, ◌∙◌}
use Rattle.session_book.specs.Records.{Pending}
use Rattle.switchboard.specs.Board.{book_at}
use Rattle.session_desk.specs.Steps.{bind_noted}
use Rattle.session_desk.proofs.Stopping.{on_err}
use Rattle.session_desk.proofs.greeting.admit.Goals as goal

pub returns-clause-binds : goal.returns-clause-binds
returns-clause-binds c = record {
  gathered = c.gather.new.desk;
  gathers = c.in_ok-gather.ensures.gathers;
  end_is = c.in_ok-end.ensures.end;
  binds = c.in_ok-end.ensures.binds;
  notes = c.in_ok-end.ensures.notes
      ∙ ap (λ (unkept : List Pending). bind_noted c.args.s (book_at c.gather.new.desk.board c.args.s).machine.line.expected c.bind.new.desk.board unkept) c.in_ok-note.ensures.ok;
  seat = c.bind.ensures.seat;
}

pub returns-clause-proceeds : goal.returns-clause-proceeds
returns-clause-proceeds c = c.sessions_proceed.ensures.further c.args.desk.now.board c.gather.new.desk.board c.bind.new.desk.board c.in_ok-gather.ensures.proceeds c.in_ok-end.ensures.proceeds

pub returns-in_err-note-clause-stops : goal.returns-in_err-note-clause-stops
returns-in_err-note-clause-stops c =
    on_err c.from_residual-in_err-note.result (inr (c.gather.new.desk, (c.in_ok-gather.ensures.gathers, inl (inl (c.stops_are_told.ensures.itself c.gather.new.desk.board)))))

pub returns-in_err-end-clause-stops : goal.returns-in_err-end-clause-stops
returns-in_err-end-clause-stops c = on_err c.from_residual-in_err-end.result (inr (c.gather.new.desk, (c.in_ok-gather.ensures.gathers, c.in_err-end.ensures.stops)))
