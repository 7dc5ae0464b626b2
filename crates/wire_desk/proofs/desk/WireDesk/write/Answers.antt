use Rattle.std.proofs.Common.{◌≡◌, false, None, Option, ℕ, length, refl, sym, ap, subst, ◌∙◌}
use Rattle.std.specs.Prelude.{IfSome}
use Rattle.connection_core.specs.Connection.{ConnectionState}
use Rattle.connection_core.specs.Outgoing.{waiting_text}
use Rattle.gate_io.specs.Plan.{LinkPlan}
use Rattle.gate_io.specs.Wire.{Link, LinkGoesOn, OthersStay}
use Rattle.lease_words.specs.Views.{EngineView}
use Rattle.session_core.specs.declared.causes.Cause.{Cause}
use Rattle.switchboard.specs.Board.{connection_at}
use Rattle.wire_desk.specs.Lines.{TookWhatIsWritten}
use Rattle.wire_desk.specs.Planned.{IsPlannedTurn, TurnsAsPlanned}
use Rattle.wire_desk.specs.Steps.{GoesOnWriting, HasStopped, cause_behind}
use Rattle.wire_desk.proofs.OnWire.{number_stays, on_wire, progresses, took_since}
use Rattle.wire_desk.proofs.Untold.{nothing_is_told, on_err}
use Rattle.wire_desk.proofs.Writes.{GoesOnAtWire, goes_further, line_here, stopped_further}
use Rattle.wire_desk.proofs.desk.WireDesk.write.Given as given
use Rattle.wire_desk.proofs.desk.WireDesk.write.Goals as goal

pub write_all-written-requires-clause-written : goal.write_all-written-requires-clause-written
write_all-written-requires-clause-written g c =
    let k = c.args.k in
    let old = connection_at c.args.desk.now.board k in
    let new = connection_at c.prepare.new.desk.board k in
    let here = line_here k c.args.desk.now.board c.prepare.new.desk.board c.requires.open_place.within c.prepare.ensures.goes_on in
    let link = g.W.Wire.link c.args.wire.now in
    subst (λ n. TookWhatIsWritten (link n) new) (sym (ap (λ (x : ConnectionState). x.number) here))
    (took_since (link old.number) (link old.number) old new refl c.prepare.ensures.written (c.requires.on_wire k c.requires.open_place.within).written)

changes : (g : given.Over) (c : goal.After-close_if_ended g) → GoesOnWriting c.args.k c.args.desk.now.board c.write_all-written.new.desk.board
changes g c = goes_further c.args.k c.args.desk.now.board c.prepare.new.desk.board c.write_all-written.new.desk.board c.requires.open_place.within c.prepare.ensures.goes_on c.write_all-written.ensures.changes

at_prepared : (g : given.Over) (c : goal.After-close_if_ended g) → (connection_at c.prepare.new.desk.board c.args.k).number ≡ (connection_at c.args.desk.now.board c.args.k).number
at_prepared g c = ap (λ (x : ConnectionState). x.number) (line_here c.args.k c.args.desk.now.board c.prepare.new.desk.board c.requires.open_place.within c.prepare.ensures.goes_on)

-- the wire behind the writes, and behind the close
wrote : (g : given.Over) (c : goal.After-close_if_ended g) → GoesOnAtWire (connection_at c.args.desk.now.board c.args.k).number (g.W.Wire.door c.args.wire.now) (g.W.Wire.door c.write_all-written.new.wire)
    (g.W.Wire.link c.args.wire.now) (g.W.Wire.link c.write_all-written.new.wire) (connection_at c.write_all-written.new.desk.board c.args.k)
wrote g c = (let all = c.write_all-written.ensures in
    subst (λ n. GoesOnAtWire n (g.W.Wire.door c.args.wire.now) (g.W.Wire.door c.write_all-written.new.wire) (g.W.Wire.link c.args.wire.now) (g.W.Wire.link c.write_all-written.new.wire) (connection_at c.write_all-written.new.desk.board c.args.k))
    (at_prepared g c) (record { goes_on = all.goes_on; open_still = all.open_still; others = all.others; left = all.left; written = all.written; door = all.door }))

record ClosesIfEnded (n : ℕ) (before after : ℕ → Link) (ended : Option Cause) : Type 0 where
  others : OthersStay before after n
  left : (after n).left ≡ (before n).left
  plan : (after n).plan ≡ (before n).plan
  written : (after n).written ≡ (before n).written
  stands : ended ≡ None → (after n).closed ≡ false
  goes_on : LinkGoesOn (before n) (after n)

at_end : (g : given.Over) (c : goal.After-close_if_ended g) → (connection_at c.end_behind.new.desk.board c.args.k).number ≡ (connection_at c.args.desk.now.board c.args.k).number
at_end g c =
    number_stays c.args.k c.args.desk.now.board c.write_all-written.new.desk.board c.end_behind.new.desk.board
    (cause_behind c.write_all-written.result.stop (connection_at c.write_all-written.new.desk.board c.args.k)) c.requires.open_place.within (changes g c) c.in_ok-end_behind.ensures.ends c.in_ok-end_behind.ensures.progresses
    (c.lines_progress.ensures.itself c.args.desk.now.board c.args.k)

closes : (g : given.Over) (c : goal.After-close_if_ended g) → ClosesIfEnded (connection_at c.args.desk.now.board c.args.k).number (g.W.Wire.link c.write_all-written.new.wire) (g.W.Wire.link c.close_if_ended.new.wire) (connection_at c.end_behind.new.desk.board c.args.k).cause
closes g c = (let close = c.close_if_ended.ensures in
    subst (λ n. ClosesIfEnded n (g.W.Wire.link c.write_all-written.new.wire) (g.W.Wire.link c.close_if_ended.new.wire) (connection_at c.end_behind.new.desk.board c.args.k).cause) (at_end g c)
    (record { others = close.others; left = close.left; plan = close.plan; written = close.written; stands = close.stands; goes_on = close.goes_on }))

pub returns-clause-progresses : goal.returns-clause-progresses
returns-clause-progresses g c =
    progresses c.args.k c.args.desk.now.board c.write_all-written.new.desk.board c.end_behind.new.desk.board
    (cause_behind c.write_all-written.result.stop (connection_at c.write_all-written.new.desk.board c.args.k)) c.requires.open_place.within (changes g c) c.in_ok-end_behind.ensures.ends c.in_ok-end_behind.ensures.progresses
    (c.lines_progress.ensures.itself c.args.desk.now.board c.args.k) c.boards_go_on.ensures.further

-- the plan is that behind the writes, also where the connection was closed
planned : (g : given.Over) (c : goal.After-close_if_ended g) → TurnsAsPlanned (g.W.Wire.link c.args.wire.now (connection_at c.args.desk.now.board c.args.k).number)
    (length (waiting_text (connection_at c.prepare.new.desk.board c.args.k).out.outgoing)) c.write_all-written.result (g.W.Wire.link c.close_if_ended.new.wire (connection_at c.args.desk.now.board c.args.k).number)
planned g c =
    let n = (connection_at c.args.desk.now.board c.args.k).number in
    let link = g.W.Wire.link in
    let waiting = length (waiting_text (connection_at c.prepare.new.desk.board c.args.k).out.outgoing) in
    let written = c.write_all-written.result in
    subst (λ (after : Option LinkPlan). IfSome (link c.args.wire.now n).plan (λ plan. IsPlannedTurn plan waiting written after)) (sym (closes g c).plan)
    (subst (λ m. TurnsAsPlanned (link c.args.wire.now m) waiting written (link c.write_all-written.new.wire m)) (at_prepared g c) c.write_all-written.ensures.planned)

pub returns-clause-writes : goal.returns-clause-writes
returns-clause-writes g c =
    let number = (connection_at c.args.desk.now.board c.args.k).number in
    let link = g.W.Wire.link in
    record {
      prepared = c.prepare.new.desk.board;
      wrote = c.write_all-written.new.desk;
      prepares = c.in_ok-prepare.ensures.prepares;
      writes = c.write_all-written.ensures.writes;
      most = c.write_all-written.ensures.most;
      planned = planned g c;
      left = (closes g c).left ∙ (wrote g c).left;
      seat = c.write_all-written.ensures.seat ∙ c.prepare.ensures.seat;
      stopped = stopped_further c.write_all-written.result.stop c.write_all-written.result.bytes (connection_at c.write_all-written.new.desk.board c.args.k) (link c.args.wire.now number) (link c.write_all-written.new.wire number)
          (link c.close_if_ended.new.wire number)
          (subst (λ n. HasStopped c.write_all-written.result.stop c.write_all-written.result.bytes (connection_at c.write_all-written.new.desk.board c.args.k) (link c.args.wire.now n) (link c.write_all-written.new.wire n)) (at_prepared g c)
          c.write_all-written.ensures.stopped) (closes g c).goes_on;
      ends = c.in_ok-end_behind.ensures.ends;
      seat_behind = c.end_behind.ensures.seat;
      unkept = refl {a = c.args.self.now.unkept.items};
    }

pub returns-clause-set_up : goal.returns-clause-set_up
returns-clause-set_up g c =
    let was = c.requires.set_up in
    let goes = (returns-clause-progresses g c).goes_on in
    let seat : c.end_behind.new.desk.seat ≡ c.args.desk.now.seat = c.end_behind.ensures.seat ∙ (c.write_all-written.ensures.seat ∙ c.prepare.ensures.seat) in
    record {
      table = ap (λ (seat : EngineView). seat.table) seat ∙ was.table;
      depth = was.depth;
      sessions = goes.sessions ∙ was.sessions;
      few = was.few;
      routes = c.sessions_proceed.ensures.routes c.args.desk.now.board c.end_behind.new.desk.board c.args.self.now.routes goes was.routes;
      few_routes = was.few_routes;
      noted = c.sessions_proceed.ensures.noted c.args.desk.now.board c.end_behind.new.desk.board c.args.self.now.unkept.items goes was.noted;
      steady = c.in_ok-end_behind.ensures.steady;
      buffer = was.buffer;
    }

pub returns-clause-on_wire : goal.returns-clause-on_wire
returns-clause-on_wire g c =
    let close = closes g c in
    let ready = c.requires.set_up.steady.run.ready in
    on_wire c.args.k c.args.desk.now.board c.write_all-written.new.desk.board c.end_behind.new.desk.board
    (cause_behind c.write_all-written.result.stop (connection_at c.write_all-written.new.desk.board c.args.k)) c.requires.open_place.within (changes g c) c.in_ok-end_behind.ensures.ends c.in_ok-end_behind.ensures.progresses
    (c.lines_progress.ensures.itself c.args.desk.now.board c.args.k)
    (g.W.Wire.door c.args.wire.now) (g.W.Wire.door c.write_all-written.new.wire) (g.W.Wire.door c.close_if_ended.new.wire) (g.W.Wire.link c.args.wire.now) (g.W.Wire.link c.write_all-written.new.wire) (g.W.Wire.link c.close_if_ended.new.wire)
    (λ j small same. ready.numbers j c.args.k small c.requires.open_place.within same) (wrote g c) c.close_if_ended.ensures.door close.others close.written close.stands c.requires.on_wire

pub returns-in_err-prepare-clause-nothing : goal.returns-in_err-prepare-clause-nothing
returns-in_err-prepare-clause-nothing g c = on_err c.from_residual.result (nothing_is_told c.args.k c.args.desk.now.board c.prepare.new.desk.board c.prepare.ensures.goes_on)

pub returns-in_err-end_behind-clause-nothing : goal.returns-in_err-end_behind-clause-nothing
returns-in_err-end_behind-clause-nothing g c =
    let old = c.args.desk.now.board in
    let wrote = c.write_all-written.new.desk.board in
    let goes = goes_further c.args.k old c.prepare.new.desk.board wrote c.requires.open_place.within c.prepare.ensures.goes_on c.write_all-written.ensures.changes in
    on_err c.from_residual-in_err-end_behind.result (c.stops_are_told.ensures.further old wrote c.end_behind.new.desk.board (nothing_is_told c.args.k old wrote goes) c.in_err-end_behind.ensures.nothing)
