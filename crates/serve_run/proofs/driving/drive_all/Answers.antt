use Rattle.std.proofs.Common.{◌≡◌, ◌<◌, ◌≤◌, ℕ, List, [], ◌∷◌, ◌++◌, true, false, add-one, arith, refl, ap, ◌∙◌}
use Rattle.std.specs.Prelude.{slice_get, slice_index_or}
use Rattle.engine_loop.specs.Turns.{at_wire}
use Rattle.library_desk.specs.declared.serving.LibTurn.{LibTurn}
use Rattle.serve_run.specs.Drives.{drive_of}
use Rattle.serve_run.specs.Ended.{or_ended}
use Rattle.serve_run.proofs.Drives.{awaits_more, awaits_on, over_from, over_to, own_awaits, takes_more}
use Rattle.serve_run.proofs.Stopping.{on_err}
use Rattle.serve_run.proofs.driving.drive_all.Goals as goal

pub returns-then-is_over-clause-drives : goal.returns-then-is_over-clause-drives
returns-then-is_over-clause-drives g c =
    let was = c.loop-made.invariant in
    let awaited = c.loop-made.awaited in
    let own = own_awaits c.args.awaited.now.connections c.args.awaited.now.libraries was.turns awaited was.awaits in
    record {
      count = c.loop-made._made;
      few = (let test = c.loop-made-test.true in omega arith);
      last = drive_of (at_wire c.loop-made.engine (g.W.Wire.door c.loop-made.wire) (g.W.Wire.link c.loop-made.wire)) was.turns was.readings;
      at = refl;
      drives = was.drives;
      reads = was.reads;
      ended = λ is. over_from _ _ was.turns awaited c.loop-made.engine was.awaits (c.is_over.ensures.over was.turns own c.if-is_over.true);
      spent = λ is. absurd (let no : true ≡ false = is in cc);
    }

pub loop-made-preserved : goal.loop-made-preserved
loop-made-preserved g c =
    let was = c.loop-made.invariant in
    let awaited = c.loop-made.awaited in
    let connections = c.args.awaited.now.connections in
    let libraries = c.args.awaited.now.libraries in
    let own = own_awaits connections libraries was.turns awaited was.awaits in
    let turn = c.in_ok-turn.turn in
    let reading = g.C.Clock.last c.turn_and_pause.new.clock in
    let first = drive_of (at_wire c.loop-made.engine (g.W.Wire.door c.loop-made.wire) (g.W.Wire.link c.loop-made.wire)) was.turns was.readings in
    record {
      turns = was.turns ++ turn ∷ [];
      readings = was.readings ++ reading ∷ [];
      drives = rw add-one (
        first,
        was.drives,
        record {
          going = λ is. c.is_over.ensures.open was.turns own c.if-is_over.false (over_to connections libraries was.turns awaited c.loop-made.engine was.awaits is);
          drives = record {
            shared = c.args.shared.now;
            work = was.engine.work was.stands;
            online = was.engine.online was.stands;
            turn = turn;
            reading = reading;
            makes = c.in_ok-turn.ensures.makes;
            turns_are = refl;
            readings_are = refl;
          };
        },
      );
      reads = takes_more g.C.Clock.has_read c.args.clock.now c.loop-made.clock c.turn_and_pause.new.clock was.readings (reading ∷ []) was.reads c.in_ok-turn.ensures.readings;
      awaits = awaits_more connections libraries was.turns turn c.is_over.new.self c.hear.new.self (awaits_on connections libraries was.turns awaited c.is_over.new.self was.awaits (c.is_over.ensures.awaits was.turns own))
          (λ place within. c.hear.ensures.said place within ∙ ap (λ (turns : List LibTurn). or_ended (slice_index_or c.is_over.new.self.said place false) (slice_get turns place)) c.as_slice.ensures) c.hear.ensures.rest c.hear.ensures.length;
      engine = c.turn_and_pause.ensures.engine;
      stands = c.in_ok-turn.ensures.goes_on;
    }

pub returns-clause-drives : goal.returns-clause-drives
returns-clause-drives g c =
    let was = c.loop-made.invariant in
    let awaited = c.loop-made.awaited in
    let connections = c.args.awaited.now.connections in
    let libraries = c.args.awaited.now.libraries in
    let own = own_awaits connections libraries was.turns awaited was.awaits in
    let test = c.loop-made-test.false in
    let end = c.loop-made.auto._made-end in
    record {
      count = c.loop-made._made;
      few = omega arith;
      last = drive_of (at_wire c.loop-made.engine (g.W.Wire.door c.loop-made.wire) (g.W.Wire.link c.loop-made.wire)) was.turns was.readings;
      at = refl;
      drives = was.drives;
      reads = was.reads;
      ended = λ is. over_from connections libraries was.turns awaited c.loop-made.engine was.awaits (c.is_over-2.ensures.over was.turns own is);
      spent = λ is. (omega arith, λ over. c.is_over-2.ensures.open was.turns own is (over_to connections libraries was.turns awaited c.loop-made.engine was.awaits over));
    }

pub returns-in_err-turn-clause-stops : goal.returns-in_err-turn-clause-stops
returns-in_err-turn-clause-stops g c =
    let was = c.loop-made.invariant in
    on_err c.from_residual.result (record {
      count = c.loop-made._made;
      few = c.loop-made-test.true;
      between = drive_of (at_wire c.loop-made.engine (g.W.Wire.door c.loop-made.wire) (g.W.Wire.link c.loop-made.wire)) was.turns was.readings;
      drives = was.drives;
      reading = g.C.Clock.last c.turn_and_pause.new.clock;
      stops = c.in_err-turn.ensures.stops was.stands;
    })
