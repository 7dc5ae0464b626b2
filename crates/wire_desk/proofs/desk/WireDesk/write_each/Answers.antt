use Rattle.std.proofs.Common.{◌<◌, ◌+◌, add-one, length, refl, sym, subst, ◌∙◌, arith}
use Rattle.wire_desk.specs.Lines.{IsOpenPlace}
use Rattle.wire_desk.specs.Places.{open_places}
use Rattle.wire_desk.specs.Steps.{WritesAt, written_so_far}
use Rattle.wire_desk.proofs.Turn.{open_further, unread_further, unread_itself}
use Rattle.wire_desk.proofs.Untold.{on_err}
use Rattle.wire_desk.proofs.desk.WireDesk.write_each.Goals as goal

pub loop-i-init : goal.loop-i-init
loop-i-init g c = record {
  writes = refl;
  most = omega arith;
  door = refl;
  set_up = c.requires.set_up;
  on_wire = c.requires.on_wire;
  open_from = c.requires.open_places;
  progresses = unread_itself c.args.desk.now.board (c.lines_progress.ensures.itself c.args.desk.now.board 0);
}

pub write-requires-clause-open_place : goal.write-requires-clause-open_place
write-requires-clause-open_place g c =
    subst (IsOpenPlace c.loop-i.desk.board (g.W.Wire.link c.loop-i.wire)) (sym c.open_place-k.ensures)
    (c.loop-i.invariant.open_from c.loop-i.i (omega arith) (omega arith))

pub overflow_add-bytes : goal.overflow_add-bytes
overflow_add-bytes g c =
    let few = c.requires.few in
    let most = c.loop-i.invariant.most in
    let more = c.in_ok-written.ensures.writes.most in
    omega arith

pub loop-i-preserved : goal.loop-i-preserved
loop-i-preserved g c =
    let was = c.loop-i.invariant in
    let now = c.in_ok-written.ensures in
    let old = c.loop-i.desk.board in
    let new = c.write.new.desk.board in
    let places = open_places c.args.self.now in
    let unkept = c.args.self.now.unkept.items in
    let link = g.W.Wire.link in
    let there : c.open_place-k.result < length old.connections = subst (λ k. k < length old.connections) (sym c.open_place-k.ensures) (was.open_from c.loop-i.i (omega arith) (omega arith)).within in
    let step : WritesAt c.open_place-k.result (written_so_far c.loop-i.desk unkept (link c.loop-i.wire) c.loop-i.bytes) (written_so_far c.write.new.desk unkept (link c.write.new.wire) (c.loop-i.bytes + c.in_ok-written.written.bytes)) = record {
      written = c.in_ok-written.written;
      writes = now.writes;
      goes_on = now.goes_on;
      others = now.others;
      closed = now.closed;
      bytes = refl;
    } in
    record {
      writes = rw add-one (
        written_so_far c.loop-i.desk unkept (link c.loop-i.wire) c.loop-i.bytes,
        was.writes,
        subst (λ k. WritesAt k (written_so_far c.loop-i.desk unkept (link c.loop-i.wire) c.loop-i.bytes) (written_so_far c.write.new.desk unkept (link c.write.new.wire) (c.loop-i.bytes + c.in_ok-written.written.bytes))) c.open_place-k.ensures step,
      );
      most = (let most = was.most in let more = now.writes.most in omega arith);
      door = now.door ∙ was.door;
      set_up = now.set_up;
      on_wire = now.on_wire;
      open_from = open_further c.loop-i.i c.open_place-k.result old new (link c.loop-i.wire) (link c.write.new.wire) places c.open_place-k.ensures c.requires.apart
          (λ j small same. was.set_up.steady.run.ready.numbers j c.open_place-k.result small there same) now.progresses now.others was.open_from;
      progresses = unread_further c.boards_go_on.ensures.further c.open_place-k.result c.args.desk.now.board old new was.progresses now.progresses;
    }

pub returns-in_err-written-clause-stops : goal.returns-in_err-written-clause-stops
returns-in_err-written-clause-stops g c = on_err c.from_residual.result (record {
  count = c.loop-i.i;
  few = omega arith;
  between = written_so_far c.loop-i.desk c.args.self.now.unkept.items (g.W.Wire.link c.loop-i.wire) c.loop-i.bytes;
  writes = c.loop-i.invariant.writes;
  stops = c.in_err-written.ensures.nothing;
})
