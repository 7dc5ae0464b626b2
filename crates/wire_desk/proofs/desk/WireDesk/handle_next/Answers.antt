use Rattle.std.proofs.Common.{ℕ, Option, Some, inr, refl, sym, ap, subst, ◌∙◌}
use Rattle.std.specs.Option.{is_some}
use Rattle.connection_core.specs.Connection.{ConnectionState}
use Rattle.fix_frame.specs.Cut.{garbled, good}
use Rattle.fix_frame.specs.declared.cutter.OwnedPiece.TheVariants.{Garbled, Good}
use Rattle.lease_words.specs.Views.{EngineView}
use Rattle.switchboard.specs.Board.{connection_at}
use Rattle.switchboard.specs.Happenings.{next_pieces}
use Rattle.wire_desk.specs.Stops.{StopsInBody}
use Rattle.wire_desk.proofs.OneByOne.{next_is, stands}
use Rattle.wire_desk.proofs.Untold.{on_err}
use Rattle.wire_desk.proofs.desk.WireDesk.handle_next.Goals as goal

pub handle-requires-clause-set_up : goal.handle-requires-clause-set_up
handle-requires-clause-set_up c =
    let goes = c.in_ok-take_piece.ensures.progresses.goes_on in
    let was = c.requires.set_up in
    c.lines_progress.ensures.set_up c.args.leases.now c.args.desk.now c.take_piece.new.desk c.args.self.now c.args.self.now goes (ap (λ (seat : EngineView). seat.table) c.take_piece.ensures.seat) refl refl
    (c.lines_progress.ensures.noted c.args.desk.now.board c.take_piece.new.desk.board c.args.self.now.unkept.items goes was.noted) c.take_piece.ensures.steady was

pub returns-in-None-clause-set_up : goal.returns-in-None-clause-set_up
returns-in-None-clause-set_up c =
    let goes = c.in_ok-take_piece.ensures.progresses.goes_on in
    let was = c.requires.set_up in
    c.lines_progress.ensures.set_up c.args.leases.now c.args.desk.now c.take_piece.new.desk c.args.self.now c.args.self.now goes (ap (λ (seat : EngineView). seat.table) c.take_piece.ensures.seat) refl refl
    (c.lines_progress.ensures.noted c.args.desk.now.board c.take_piece.new.desk.board c.args.self.now.unkept.items goes was.noted) c.take_piece.ensures.steady was

pub returns-in-Some-Garbled-clause-set_up : goal.returns-in-Some-Garbled-clause-set_up
returns-in-Some-Garbled-clause-set_up c =
    let goes = c.in_ok-take_piece.ensures.progresses.goes_on in
    let was = c.requires.set_up in
    c.lines_progress.ensures.set_up c.args.leases.now c.args.desk.now c.take_piece.new.desk c.args.self.now c.args.self.now goes (ap (λ (seat : EngineView). seat.table) c.take_piece.ensures.seat) refl refl
    (c.lines_progress.ensures.noted c.args.desk.now.board c.take_piece.new.desk.board c.args.self.now.unkept.items goes was.noted) c.take_piece.ensures.steady was

pub returns-in-Some-Garbled-clause-handles : goal.returns-in-Some-Garbled-clause-handles
returns-in-Some-Garbled-clause-handles c =
    let line = connection_at c.args.desk.now.board c.args.k in
    let size = c.in-Some-Garbled.field-0-0 in
    record {
      piece = garbled size;
      given = c.take_piece.new.desk;
      stood = stands line.cause (ap (λ (x : ConnectionState). is_some x.cause) (sym c.connection.ensures) ∙ sym c.has_ended.ensures ∙ c.if-has_ended.false);
      is_next = next_is c.in_ok-take_piece.field-0 (Garbled size) (next_pieces line) c.in_ok-take_piece.ensures.next (c.in-Some-Garbled.is ∙ ap (λ p. Some p) c.in-Some-Garbled.field-0-is);
      gives = c.in_ok-take_piece.ensures.gives;
      seat = c.take_piece.ensures.seat;
      handles = refl;
    }

pub returns-in_ok-handle-in-Some-Good-clause-handles : goal.returns-in_ok-handle-in-Some-Good-clause-handles
returns-in_ok-handle-in-Some-Good-clause-handles c =
    let line = connection_at c.args.desk.now.board c.args.k in
    let body = c.in-Some-Good.body in
    record {
      piece = good body.items;
      given = c.take_piece.new.desk;
      stood = stands line.cause (ap (λ (x : ConnectionState). is_some x.cause) (sym c.connection.ensures) ∙ sym c.has_ended.ensures ∙ c.if-has_ended.false);
      is_next = next_is c.in_ok-take_piece.field-0 (Good body) (next_pieces line) c.in_ok-take_piece.ensures.next (c.in-Some-Good.is ∙ ap (λ p. Some p) c.in-Some-Good.field-0-is);
      gives = c.in_ok-take_piece.ensures.gives;
      seat = c.take_piece.ensures.seat;
      handles = c.in_ok-handle-in-Some-Good.ensures.handles;
    }

pub returns-in_err-handle-in-Some-Good-clause-stops : goal.returns-in_err-handle-in-Some-Good-clause-stops
returns-in_err-handle-in-Some-Good-clause-stops c =
    let line = connection_at c.args.desk.now.board c.args.k in
    let body = c.in-Some-Good.body in
    let given = c.take_piece.new.desk in
    on_err c.from_residual-in_err-handle-in-Some-Good.result (inr (record {
      body = body.items;
      given = given;
      is_next = next_is c.in_ok-take_piece.field-0 (Good body) (next_pieces line) c.in_ok-take_piece.ensures.next (c.in-Some-Good.is ∙ ap (λ p. Some p) c.in-Some-Good.field-0-is);
      gives = c.in_ok-take_piece.ensures.gives;
      seat = c.take_piece.ensures.seat;
      stops = subst (λ (session : Option ℕ). StopsInBody session c.args.k body.items c.args.at c.args.until given c.handle.new.desk) c.in_ok-take_piece.ensures.session c.in_err-handle-in-Some-Good.ensures.stops;
    }))
