use Rattle.std.proofs.Common.{◌++◌, ℕ, List, length, refl, sym, ap, subst, ◌∙◌, arith}
use Rattle.engine_loop.proofs.Coming.{accepted_stays, few_came, few_dialled, most_stays}
use Rattle.wire_desk.specs.Stops.{StopsCalling}
use Rattle.engine_loop.proofs.Stopped.{on_err}
use Rattle.engine_loop.proofs.engine.Engine.dial_session.Goals as goal
use Rattle.wire_desk.specs.Places.{AreRising}
use Rattle.wire_desk.specs.Steps.{AreApart}
use Rattle.wire_desk.specs.declared.desk.WireDesk.{WireDesk}

pub returns-clause-work : goal.returns-clause-work
returns-clause-work g c =
    let told = c.in_ok-dial.ensures in
    c.engines_stay.ensures.work c.args.shared.now c.args.self.now _ refl told.proceeds.goes_on told.proceeds.leases told.set_up c.requires.work

pub returns-clause-online : goal.returns-clause-online
returns-clause-online g c =
    let told = c.in_ok-dial.ensures in
    let was = c.requires.online in
    let old = c.args.self.now in
    let answer = c.in_ok-dial.field-0 in
    let board = old.sessions.desk.board in
    let first = old.lines.accepted.items in
    let last = old.lines.dialled.items in
    let new = c.dial.new.lines in
    let apart = c.places_stay_apart.ensures.dialled answer board first last (g.W.Wire.door c.args.wire.now) (g.W.Wire.link c.args.wire.now) was.wired was.apart in
    let listed = ap (λ (xs : List ℕ). new.accepted.items ++ xs) told.listed in
    let same = ap (λ (w : WireDesk). w.accepted.items) c.dial.ensures.lines in
    record {
      wired = told.wired;
      dialling = told.dialling;
      accepted = was.accepted ∙ sym (accepted_stays g.W.Wire.door answer c.args.wire.now c.dial.new.wire (g.W.Wire.link c.dial.new.wire) told.unasked told.answer);
      apart = subst AreApart (sym (listed ∙ ap (λ (xs : List ℕ). xs ++ Rattle.wire_desk.specs.Places.dialled_behind answer (length board.connections) last) same)) apart;
      in_order = record {
        accepted = subst AreRising (sym same) was.in_order.accepted;
        dialled = subst AreRising (sym told.listed) (c.places_stay_in_order.ensures.dialled answer board first last (g.W.Wire.door c.args.wire.now) (g.W.Wire.link c.args.wire.now) was.wired was.in_order.dialled);
      };
      few_accepted = (let few = was.few_accepted in let count = ap (λ (xs : List ℕ). length xs) same in omega arith);
      few_dialled = (let few = few_dialled answer c.args.s old.moment c.until-until.result (length board.connections) old.sessions.desk c.dial.new.desk old.dialler c.dial.new.self last told.dials was.few_dialled in
          let count = ap (λ (xs : List ℕ). length xs) told.listed in omega arith);
      came = few_came answer c.args.s old.moment c.until-until.result old.accepted old.sessions.desk c.dial.new.desk old.dialler c.dial.new.self told.dials c.dial.ensures.one_comes was.came;
      spare = record {
        for_sessions = (let most = was.spare.for_sessions in let sessions = told.proceeds.goes_on.sessions in omega arith);
        for_connections = (let most = was.spare.for_connections in let dials = most_stays answer c.args.s old.moment c.until-until.result old.sessions.desk c.dial.new.desk old.dialler c.dial.new.self told.dials in omega arith);
      };
    }

pub returns-in_err-dial-clause-room : goal.returns-in_err-dial-clause-room
returns-in_err-dial-clause-room g c =
    let was = c.requires.online in
    record {
      for_sessions = (let most = was.spare.for_sessions in let count = c.dial.ensures.sessions_stay in omega arith);
      for_connections = (let came = was.came in let one = c.dial.ensures.one_comes in let most = was.spare.for_connections in let few = c.requires.work.few in let left = c.in_err-dial.ensures.err_due.left in omega arith);
    }

pub returns-in_err-dial-clause-stops : goal.returns-in_err-dial-clause-stops
returns-in_err-dial-clause-stops g c =
    let e = c.args.self.now in
    on_err c.from_residual.result (subst (λ until. StopsCalling (g.W.Wire.door c.args.wire.now).dialled c.args.s e.moment until e.sessions.desk c.dial.new.desk) c.until-until.ensures c.in_err-dial.ensures.stops)
