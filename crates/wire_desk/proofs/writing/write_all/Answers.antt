use Rattle.std.proofs.Common.{◌≡◌, ◌<◌, inl, refl, sym, ap, subst, ◌∙◌, length, arith}
use Rattle.std.specs.Prelude.{min}
use Rattle.connection_core.specs.Connection.{ConnectionState}
use Rattle.connection_core.specs.Outgoing.{waiting_text}
use Rattle.connection_core.specs.declared.limits.TheConstants.{MOST_WRITTEN}
use Rattle.gate_io.specs.Wire.{IsOpen}
use Rattle.switchboard.specs.Board.{connection_at}
use Rattle.wire_desk.specs.Lines.{TookWhatIsWritten}
use Rattle.wire_desk.specs.declared.written.Wrote.TheVariants.{Bytes, Stopped}
use Rattle.wire_desk.proofs.Planned.{at_first, further, most, stopped}
use Rattle.wire_desk.proofs.Writes.{GoesOnAtWire, count_stays, goes_further, goes_itself, line_here, once_more, some_further, still_waits, wire_further}
use Rattle.wire_desk.proofs.writing.write_all.Given as given
use Rattle.wire_desk.proofs.writing.write_all.Goals as goal

number_is : (g : given.Over) (c : goal.After-write_once-arg-in-loop-bytes-1 g) → (connection_at c.loop-bytes.desk.board c.args.k).number ≡ (connection_at c.args.desk.now.board c.args.k).number
number_is g c = ap (λ (x : ConnectionState). x.number) (line_here c.args.k c.args.desk.now.board c.loop-bytes.desk.board c.requires.connection c.loop-bytes.invariant.changes)

pub loop-bytes-init : goal.loop-bytes-init
loop-bytes-init g c =
    let number = (connection_at c.args.desk.now.board c.args.k).number in
    record {
      few = omega arith;
      writes = inl (refl, refl);
      wire = record {
        goes_on = record { read_faults = omega arith; read_blocks = omega arith; ends = omega arith; write_faults = omega arith; write_blocks = omega arith };
        open_still = c.requires.open_still;
        others = λ m other. refl;
        left = refl;
        written = c.requires.written;
        door = refl;
      };
      planned = at_first (g.W.Wire.link c.args.wire.now number).plan (min (length (waiting_text (connection_at c.args.desk.now.board c.args.k).out.outgoing)) MOST_WRITTEN);
      changes = goes_itself c.args.k c.args.desk.now.board;
      steady = c.requires.steady;
      seat = refl;
    }

pub write_once-requires-clause-steady : goal.write_once-requires-clause-steady
write_once-requires-clause-steady g c = c.loop-bytes.invariant.steady

pub write_once-requires-clause-connection : goal.write_once-requires-clause-connection
write_once-requires-clause-connection g c = subst (λ n. c.args.k < n) (sym (count_stays c.args.k c.args.desk.now.board c.loop-bytes.desk.board c.loop-bytes.invariant.changes)) c.requires.connection

pub write_once-requires-clause-open_still : goal.write_once-requires-clause-open_still
write_once-requires-clause-open_still g c = subst (IsOpen (g.W.Wire.door c.loop-bytes.wire) (g.W.Wire.link c.loop-bytes.wire)) (sym (number_is g c)) c.loop-bytes.invariant.wire.open_still

pub write_once-requires-clause-written : goal.write_once-requires-clause-written
write_once-requires-clause-written g c = subst (λ n. TookWhatIsWritten (g.W.Wire.link c.loop-bytes.wire n) (connection_at c.loop-bytes.desk.board c.args.k)) (sym (number_is g c)) c.loop-bytes.invariant.wire.written

pub loop-bytes-preserved : goal.loop-bytes-preserved
loop-bytes-preserved g c =
    let first = c.args.desk.now.board in
    let now = c.loop-bytes.desk.board in
    let new = c.write_once.new.desk.board in
    let door = g.W.Wire.door in
    let link = g.W.Wire.link in
    let at = (connection_at first c.args.k).number in
    let is : (connection_at now c.args.k).number ≡ at = ap (λ (x : ConnectionState). x.number) (line_here c.args.k first now c.requires.connection c.loop-bytes.invariant.changes) in
    let step : GoesOnAtWire at (door c.loop-bytes.wire) (door c.write_once.new.wire) (link c.loop-bytes.wire) (link c.write_once.new.wire) (connection_at new c.args.k) =
    subst (λ n. GoesOnAtWire n (door c.loop-bytes.wire) (door c.write_once.new.wire) (link c.loop-bytes.wire) (link c.write_once.new.wire) (connection_at new c.args.k)) is (record {
      goes_on = c.in-Bytes.ensures.goes_on;
      open_still = c.in-Bytes.ensures.open_still;
      others = c.in-Bytes.ensures.others;
      left = c.in-Bytes.ensures.left;
      written = c.in-Bytes.ensures.written;
      door = c.in-Bytes.ensures.door;
    }) in
    record {
      few = (let most = c.in-Bytes.ensures.writes.1.0 in omega arith);
      writes = some_further c.args.k first now new c.loop-bytes.bytes c.in-Bytes.n c.loop-bytes.invariant.writes c.in-Bytes.ensures.writes.1.1;
      wire = wire_further at (door c.args.wire.now) (door c.loop-bytes.wire) (door c.write_once.new.wire) (link c.args.wire.now) (link c.loop-bytes.wire) (link c.write_once.new.wire) (connection_at now c.args.k) (connection_at new c.args.k)
          c.loop-bytes.invariant.wire step;
      planned = further (link c.args.wire.now at).plan (link c.loop-bytes.wire at).plan (link c.write_once.new.wire at).plan (min (length (waiting_text (connection_at first c.args.k).out.outgoing)) MOST_WRITTEN) c.loop-bytes.bytes c.in-Bytes.n
          c.loop-bytes.invariant.planned (once_more c.args.k c.loop-bytes.bytes first now (link c.loop-bytes.wire) (link c.write_once.new.wire) (Bytes c.in-Bytes.n) c.requires.connection c.loop-bytes.invariant.changes c.loop-bytes.invariant.writes c.in-Bytes.ensures.planned);
      changes = goes_further c.args.k first now new c.requires.connection c.loop-bytes.invariant.changes c.in-Bytes.ensures.changes;
      steady = c.in-Bytes.ensures.steady;
      seat = c.in-Bytes.ensures.seat ∙ c.loop-bytes.invariant.seat;
    }

pub returns-in-Stopped-clause-planned : goal.returns-in-Stopped-clause-planned
returns-in-Stopped-clause-planned g c =
    let first = c.args.desk.now.board in
    let now = c.loop-bytes.desk.board in
    let link = g.W.Wire.link in
    let at = (connection_at first c.args.k).number in
    let waits = still_waits c.args.k c.loop-bytes.bytes first now c.loop-bytes.invariant.writes in
    stopped (link c.args.wire.now at).plan (link c.loop-bytes.wire at).plan (link c.write_once.new.wire at).plan (length (waiting_text (connection_at first c.args.k).out.outgoing)) c.loop-bytes.bytes c.in-Stopped.stop
    (omega (arith, c.loop-bytes-test.true)) waits.0 c.loop-bytes.invariant.planned
    (once_more c.args.k c.loop-bytes.bytes first now (link c.loop-bytes.wire) (link c.write_once.new.wire) (Stopped c.in-Stopped.stop) c.requires.connection c.loop-bytes.invariant.changes c.loop-bytes.invariant.writes c.in-Stopped.ensures.planned)

pub returns-clause-planned : goal.returns-clause-planned
returns-clause-planned g c =
    let first = c.args.desk.now.board in
    let link = g.W.Wire.link in
    let at = (connection_at first c.args.k).number in
    let few = c.loop-bytes.invariant.few in
    most (link c.args.wire.now at).plan (link c.loop-bytes.wire at).plan (length (waiting_text (connection_at first c.args.k).out.outgoing)) c.loop-bytes.bytes (omega (arith, c.loop-bytes-test.false)) c.loop-bytes.invariant.planned
