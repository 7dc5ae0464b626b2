use Rattle.std.proofs.Common.{ℕ, List, inr, refl, ap, subst, take}
use Rattle.lease_words.specs.Views.{EngineView}
use Rattle.switchboard.specs.Happenings.{Happens, takes}
use Rattle.wire_desk.proofs.Untold.{on_err}
use Rattle.wire_desk.proofs.desk.WireDesk.take_bytes.Goals as goal

pub handle_all-requires-clause-set_up : goal.handle_all-requires-clause-set_up
handle_all-requires-clause-set_up c =
    let goes = c.in_ok-take_in.ensures.progresses.goes_on in
    let was = c.requires.set_up in
    c.lines_progress.ensures.set_up c.args.leases.now c.args.desk.now c.take_in.new.desk c.args.self.now _ goes (ap (λ (seat : EngineView). seat.table) c.take_in.ensures.seat) refl refl
    (c.lines_progress.ensures.noted c.args.desk.now.board c.take_in.new.desk.board c.args.self.now.unkept.items goes was.noted) c.take_in.ensures.steady was

pub returns-clause-takes : goal.returns-clause-takes
returns-clause-takes c = record {
  taken = c.take_in.new.desk;
  takes = subst (λ (xs : List ℕ). Happens (takes c.args.k (take c.args.n xs)) c.args.desk.now.board c.take_in.new.desk.board) c.deref.ensures.value c.in_ok-take_in.ensures.takes;
  seat = c.take_in.ensures.seat;
  handles = c.in_ok-handle_all.ensures.handles;
}

pub returns-in_err-handle_all-clause-stops : goal.returns-in_err-handle_all-clause-stops
returns-in_err-handle_all-clause-stops c = on_err c.from_residual-in_err-handle_all.result (inr (record {
  bytes = _;
  taken = c.take_in.new.desk;
  takes = c.in_ok-take_in.ensures.takes;
  seat = c.take_in.ensures.seat;
  stops = c.in_err-handle_all.ensures.stops;
}))
