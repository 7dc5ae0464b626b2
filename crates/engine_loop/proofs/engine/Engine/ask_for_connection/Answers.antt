use Rattle.std.proofs.Common.{◌++◌, ℕ, List, length, sym, ap, subst, ◌∙◌, arith}
use Rattle.engine_loop.proofs.Coming.{accepted_counts, dialled_stays, few_listed, goes_by}
use Rattle.engine_loop.proofs.engine.Engine.ask_for_connection.Goals as goal
use Rattle.engine_loop.specs.Turns.{accepted_after}
use Rattle.gate_io.specs.declared.wires.Accepted.{Accepted}
use Rattle.wire_desk.specs.Places.{AreRising, listed_behind}
use Rattle.wire_desk.specs.Steps.{AreApart}
use Rattle.wire_desk.specs.declared.desk.WireDesk.{WireDesk}

pub returns-in-New-clause-online : goal.returns-in-New-clause-online
returns-in-New-clause-online g c =
    let told = c.in_ok-answer.ensures in
    let was = c.requires.online in
    let old = c.args.self.now in
    let answer = c.in_ok-answer.answer in
    let board = old.sessions.desk.board in
    let place = length board.connections in
    let first = old.lines.accepted.items in
    let last = old.lines.dialled.items in
    let new = c.accept.new.self in
    let before = g.W.Wire.door c.args.wire.now in
    let after = g.W.Wire.door c.accept.new.wire in
    let links = g.W.Wire.link c.accept.new.wire in
    let goes = goes_by c.boards_go_on.ensures.happening c.boards_go_on.ensures.itself answer old.moment old.sessions.desk c.accept.new.desk told.accepts in
    let apart = c.places_stay_apart.ensures.accepted answer board first last before (g.W.Wire.link c.args.wire.now) was.wired was.apart in
    let listed = ap (λ (xs : List ℕ). xs ++ new.dialled.items) told.listed ∙ ap (λ (w : WireDesk). listed_behind answer place first ++ w.dialled.items) c.accept.ensures.rest in
    let one = ap (λ (a : Accepted). accepted_after a old.accepted) c.in-New.is in
    record {
      wired = told.wired;
      dialling = c.dialling_goes_on.ensures.boards board c.accept.new.desk.board before after old.dialler goes (dialled_stays answer before after links told.answer) was.dialling;
      accepted = sym one ∙ ap (accepted_after answer) was.accepted ∙ sym (accepted_counts answer before after links told.answer);
      apart = subst AreApart (sym listed) apart;
      in_order = record {
        accepted = subst AreRising (sym told.listed) (c.places_stay_in_order.ensures.accepted answer board first last before (g.W.Wire.link c.args.wire.now) was.wired was.in_order.accepted);
        dialled = subst AreRising (sym (ap (λ (w : WireDesk). w.dialled.items) c.accept.ensures.rest)) was.in_order.dialled;
      };
      few_accepted = (let few = few_listed answer place old.accepted first was.few_accepted in let count = ap (λ (xs : List ℕ). length xs) told.listed in omega arith);
      few_dialled = (let few = was.few_dialled in let count = ap (λ (w : WireDesk). length w.dialled.items) c.accept.ensures.rest in omega arith);
      came = (let came = was.came in let count = c.accept.ensures.one_comes in omega arith);
      spare = record {
        for_sessions = (let most = was.spare.for_sessions in let sessions = goes.sessions in omega arith);
        for_connections = was.spare.for_connections;
      };
    }

pub returns-in_err-answer-clause-room : goal.returns-in_err-answer-clause-room
returns-in_err-answer-clause-room g c =
    let was = c.requires.online in
    record {
      for_sessions = (let most = was.spare.for_sessions in let count = c.accept.ensures.sessions_stay in omega arith);
      for_connections = (let came = was.came in let one = c.accept.ensures.one_comes in let most = was.spare.for_connections in let made = was.dialling.few in let due = c.requires.due in omega arith);
    }
