use Rattle.std.proofs.Common.{◌⊎◌, ◌+◌, inl, inr, ℕ, List, [], length, sym, ap, subst}
use Rattle.engine_loop.specs.Turns.{AcceptsNext, ReadsAll, ServesOne, at_wire, reading_of, serving_of}
use Rattle.engine_loop.specs.declared.engine.Engine.{Engine}
use Rattle.gate_io.specs.declared.wires.WireGot.{WireGot}
use Rattle.lease_desk.specs.Desk.{InTurn}
use Rattle.library_desk.specs.declared.serving.LibTurn.{LibTurn}
use Rattle.wire_desk.specs.Places.{open_places}
use Rattle.engine_loop.specs.Stops.{StopsCallingAll, StopsReadingBehind, StopsTaking, TellsNothing}
use Rattle.engine_loop.proofs.Stopped.{accepted_then, nothing_told, on_err}
use Rattle.engine_loop.proofs.engine.Engine.take_at.Goals as goal

pub returns-clause-online : goal.returns-clause-online
returns-clause-online g c =
    let door = g.W.Wire.door c.read_all.new.wire in
    let links = g.W.Wire.link c.read_all.new.wire in
    c.engines_stay.ensures.noted_online c.serve_all.new.self c.note_all.new.self door links c.note_all.ensures.rest (c.in_ok-libs.ensures.online door links (c.in_ok-tick_all.ensures.online door links c.in_ok-reads.ensures.online))

pub returns-clause-takes : goal.returns-clause-takes
returns-clause-takes g c =
    let door = g.W.Wire.door in
    let link = g.W.Wire.link in
    let accepted = at_wire c.accept_next.new.self (door c.accept_next.new.wire) (link c.accept_next.new.wire) in
    let dialled = at_wire c.dial_all.new.self (door c.dial_all.new.wire) (link c.dial_all.new.wire) in
    let read = c.read_all.new.self in
    let ticked = c.tick_all.new.self in
    let served = c.serve_all.new.self in
    record {
      accepted = accepted;
      dialled = dialled;
      read = read;
      ticked = ticked;
      served = served;
      moment = ap (λ (e : Engine). e.moment) c.set_moment.ensures.moment;
      accepts = subst (λ (e : Engine). AcceptsNext c.in_ok-accepted.accepted (at_wire e (door c.args.wire.now) (link c.args.wire.now)) accepted) c.set_moment.ensures.moment c.in_ok-accepted.ensures.accepts;
      dials = c.in_ok-dial_all.ensures.dials;
      door = c.read_all.ensures.door;
      reads = subst (λ (got : List (ℕ × WireGot)). ReadsAll (open_places dialled.engine.lines) (reading_of dialled.engine dialled.links []) (reading_of read (link c.read_all.new.wire) got)) (sym c.of.ensures) c.in_ok-reads.ensures.reads;
      ticks = c.in_ok-tick_all.ensures.ticks;
      serves = subst (λ (turns : List LibTurn). InTurn (λ i. ServesOne (i + 1)) (length ticked.sessions.ends.items) (serving_of ticked []) (serving_of served turns)) (sym c.of-2.ensures) c.in_ok-libs.ensures.serves;
      notes = c.in_ok-note_all.ensures.notes;
    }

pub returns-in_err-accepted-clause-stops : goal.returns-in_err-accepted-clause-stops
returns-in_err-accepted-clause-stops g c =
    let new = c.accept_next.new.self in
    let stops : StopsTaking c.args.reading (at_wire c.args.self.now (g.W.Wire.door c.args.wire.now) (g.W.Wire.link c.args.wire.now)) new =
    inl (subst (λ (e : Engine). TellsNothing e new) c.set_moment.ensures.moment c.in_err-accepted.ensures.nothing) in
    on_err c.from_residual.result stops

pub returns-in_err-dial_all-clause-stops : goal.returns-in_err-dial_all-clause-stops
returns-in_err-dial_all-clause-stops g c =
    let old = at_wire c.args.self.now (g.W.Wire.door c.args.wire.now) (g.W.Wire.link c.args.wire.now) in
    let accepted = at_wire c.accept_next.new.self (g.W.Wire.door c.accept_next.new.wire) (g.W.Wire.link c.accept_next.new.wire) in
    let stops : StopsCallingAll accepted c.dial_all.new.self ⊎ StopsReadingBehind accepted c.dial_all.new.self = inl c.in_err-dial_all.ensures.stops in
    on_err c.from_residual-in_err-dial_all.result (accepted_then c.args.reading old c.set_moment.new.self c.in_ok-accepted.accepted accepted c.dial_all.new.self c.set_moment.ensures.moment c.in_ok-accepted.ensures.accepts stops)

pub returns-in_err-reads-clause-stops : goal.returns-in_err-reads-clause-stops
returns-in_err-reads-clause-stops g c =
    let old = at_wire c.args.self.now (g.W.Wire.door c.args.wire.now) (g.W.Wire.link c.args.wire.now) in
    let accepted = at_wire c.accept_next.new.self (g.W.Wire.door c.accept_next.new.wire) (g.W.Wire.link c.accept_next.new.wire) in
    let dialled = at_wire c.dial_all.new.self (g.W.Wire.door c.dial_all.new.wire) (g.W.Wire.link c.dial_all.new.wire) in
    let stops : StopsCallingAll accepted c.read_all.new.self ⊎ StopsReadingBehind accepted c.read_all.new.self = inr (record {
      dialled = dialled;
      dials = c.in_ok-dial_all.ensures.dials;
      stops = inl c.in_err-reads.ensures.stops;
    }) in
    on_err c.from_residual-in_err-reads.result (accepted_then c.args.reading old c.set_moment.new.self c.in_ok-accepted.accepted accepted c.read_all.new.self c.set_moment.ensures.moment c.in_ok-accepted.ensures.accepts stops)

pub returns-in_err-tick_all-clause-stops : goal.returns-in_err-tick_all-clause-stops
returns-in_err-tick_all-clause-stops g c =
    let old = at_wire c.args.self.now (g.W.Wire.door c.args.wire.now) (g.W.Wire.link c.args.wire.now) in
    let accepted = at_wire c.accept_next.new.self (g.W.Wire.door c.accept_next.new.wire) (g.W.Wire.link c.accept_next.new.wire) in
    let dialled = at_wire c.dial_all.new.self (g.W.Wire.door c.dial_all.new.wire) (g.W.Wire.link c.dial_all.new.wire) in
    let stops : StopsCallingAll accepted c.tick_all.new.self ⊎ StopsReadingBehind accepted c.tick_all.new.self = inr (record {
      dialled = dialled;
      dials = c.in_ok-dial_all.ensures.dials;
      stops = inr (record {
        read = c.read_all.new.self;
        links_read = g.W.Wire.link c.read_all.new.wire;
        got = c.in_ok-reads.reads.items;
        reads = c.in_ok-reads.ensures.reads;
        stops = inl c.in_err-tick_all.ensures.stops;
      });
    }) in
    on_err c.from_residual-in_err-tick_all.result (accepted_then c.args.reading old c.set_moment.new.self c.in_ok-accepted.accepted accepted c.tick_all.new.self c.set_moment.ensures.moment c.in_ok-accepted.ensures.accepts stops)

pub returns-in_err-libs-clause-stops : goal.returns-in_err-libs-clause-stops
returns-in_err-libs-clause-stops g c =
    let old = at_wire c.args.self.now (g.W.Wire.door c.args.wire.now) (g.W.Wire.link c.args.wire.now) in
    let accepted = at_wire c.accept_next.new.self (g.W.Wire.door c.accept_next.new.wire) (g.W.Wire.link c.accept_next.new.wire) in
    let dialled = at_wire c.dial_all.new.self (g.W.Wire.door c.dial_all.new.wire) (g.W.Wire.link c.dial_all.new.wire) in
    let stops : StopsCallingAll accepted c.serve_all.new.self ⊎ StopsReadingBehind accepted c.serve_all.new.self = inr (record {
      dialled = dialled;
      dials = c.in_ok-dial_all.ensures.dials;
      stops = inr (record {
        read = c.read_all.new.self;
        links_read = g.W.Wire.link c.read_all.new.wire;
        got = c.in_ok-reads.reads.items;
        reads = c.in_ok-reads.ensures.reads;
        stops = inr (record {
          ticked = c.tick_all.new.self;
          ticks = c.in_ok-tick_all.ensures.ticks;
          stops = inl c.in_err-libs.ensures.stops;
        });
      });
    }) in
    on_err c.from_residual-in_err-libs.result (accepted_then c.args.reading old c.set_moment.new.self c.in_ok-accepted.accepted accepted c.serve_all.new.self c.set_moment.ensures.moment c.in_ok-accepted.ensures.accepts stops)

pub returns-in_err-note_all-clause-stops : goal.returns-in_err-note_all-clause-stops
returns-in_err-note_all-clause-stops g c =
    let old = at_wire c.args.self.now (g.W.Wire.door c.args.wire.now) (g.W.Wire.link c.args.wire.now) in
    let accepted = at_wire c.accept_next.new.self (g.W.Wire.door c.accept_next.new.wire) (g.W.Wire.link c.accept_next.new.wire) in
    let dialled = at_wire c.dial_all.new.self (g.W.Wire.door c.dial_all.new.wire) (g.W.Wire.link c.dial_all.new.wire) in
    let served = c.serve_all.new.self in
    let untold = subst (λ (e : Engine). TellsNothing served e) (sym c.note_all.ensures.rest) (nothing_told served.sessions.desk.board) in
    let stops : StopsCallingAll accepted c.note_all.new.self ⊎ StopsReadingBehind accepted c.note_all.new.self = inr (record {
      dialled = dialled;
      dials = c.in_ok-dial_all.ensures.dials;
      stops = inr (record {
        read = c.read_all.new.self;
        links_read = g.W.Wire.link c.read_all.new.wire;
        got = c.in_ok-reads.reads.items;
        reads = c.in_ok-reads.ensures.reads;
        stops = inr (record {
          ticked = c.tick_all.new.self;
          ticks = c.in_ok-tick_all.ensures.ticks;
          stops = inr (served, (c.in_ok-libs.libs.items, record { serves = c.in_ok-libs.ensures.serves; stops = untold }));
        });
      });
    }) in
    on_err c.from_residual-in_err-note_all.result (accepted_then c.args.reading old c.set_moment.new.self c.in_ok-accepted.accepted accepted c.note_all.new.self c.set_moment.ensures.moment c.in_ok-accepted.ensures.accepts stops)
