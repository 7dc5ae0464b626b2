use Rattle.std.proofs.Common.{◌≡◌, ℕ, ◌≤◌, ◌++◌, List, length, refl, sym, ap, subst, ◌∙◌, arith}
use Rattle.catchup_pump.specs.declared.cursor.Cursor.{Cursor}
use Rattle.engine_end.specs.Room.{Room}
use Rattle.engine_loop.specs.Engines.{IsAtWork, IsOnline}
use Rattle.engine_loop.specs.declared.engine.Engine.{Engine}
use Rattle.session_desk.specs.Steps.{AreNoted}
use Rattle.gate_io.specs.declared.clocks.TheConstants.{LAST_MOMENT}
use Rattle.gate_io.specs.declared.wires.TheConstants.{MOST_CONNECTIONS}
use Rattle.library_desk.specs.Serving.{AreCursors, IsLinked}
use Rattle.library_desk.specs.declared.desk.LibraryDesk.{LibraryDesk}
use Rattle.wire_desk.specs.Dials.{IsDialling}
use Rattle.wire_desk.specs.Lines.{IsWired}
use Rattle.wire_desk.specs.Places.{AreRising, open_places}
use Rattle.wire_desk.specs.Steps.{AreApart}
use Rattle.wire_desk.specs.declared.dialling.Dialler.{Dialler}
use Rattle.engine_loop.proofs.laws.engines_stay.Goals as goal

pub returns-clause-work : goal.returns-clause-work
returns-clause-work c = λ shared old new rest goes leases set_up was.
    let desk : new.sessions ≡ record (old.sessions) { desk = new.sessions.desk } = ap (λ (e : Engine). e.sessions) rest in
    let linked = was.linked in
    record {
      linked = subst (λ (d : LibraryDesk). IsLinked shared d) (sym desk) (record {
        table = set_up.table;
        depth = linked.depth;
        sessions = goes.sessions ∙ linked.sessions;
        few = linked.few;
        libraries = linked.libraries;
        known = linked.known;
        watched = linked.watched;
        commands = linked.commands;
        notices = linked.notices;
      });
      in_order = record {
        in_step = set_up.steady.in_step;
        cursors = subst (λ (cursors : List Cursor). AreCursors new.sessions.desk.board cursors) (sym (ap (λ (d : LibraryDesk). d.cursors.items) desk))
            (c.cursors_stay.ensures.boards old.sessions.desk.board new.sessions.desk.board old.sessions.cursors.items goes.sessions leases was.in_order.cursors);
      };
      set_up = set_up;
      moment = subst (λ n. n ≤ LAST_MOMENT) (sym (ap (λ (e : Engine). e.moment) rest)) was.moment;
      most = subst (λ n. n ≤ MOST_CONNECTIONS) (sym (ap (λ (e : Engine). e.connections) rest)) was.most;
      few = subst (λ (e : Engine). e.accepted ≤ e.connections) (sym rest) was.few;
    }

pub returns-clause-still : goal.returns-clause-still
returns-clause-still c = λ old new door links goes count bytes first last dialler accepted connections spare was.
    let places : open_places new.lines ≡ open_places old.lines = ap (λ (ks : List ℕ). ks ++ new.lines.dialled.items) first ∙ ap (λ (ks : List ℕ). old.lines.accepted.items ++ ks) last in
    record {
      wired = subst (λ (xs : List ℕ). IsWired new.sessions.desk.board xs door links) (sym places)
          (c.lines_progress.ensures.still old.sessions.desk.board new.sessions.desk.board _ door links goes count bytes was.wired);
      dialling = subst (λ (d : Dialler). IsDialling new.sessions.desk.board door d) (sym dialler) (c.dialling_goes_on.ensures.boards old.sessions.desk.board new.sessions.desk.board door door old.dialler goes refl was.dialling);
      accepted = accepted ∙ was.accepted;
      apart = subst AreApart (sym places) was.apart;
      in_order = record { accepted = subst AreRising (sym first) was.in_order.accepted; dialled = subst AreRising (sym last) was.in_order.dialled };
      few_accepted = (let few = was.few_accepted in let count = ap (λ (ks : List ℕ). length ks) first in omega arith);
      few_dialled = (let few = was.few_dialled in let count = ap (λ (ks : List ℕ). length ks) last in let made = ap (λ (d : Dialler). d.made) dialler in omega arith);
      came = (let came = was.came in let made = ap (λ (d : Dialler). d.made) dialler in omega arith);
      spare = record {
        for_sessions = (let most = was.spare.for_sessions in let sessions = goes.sessions in let room = ap (λ (r : Room). r.sessions) spare in omega arith);
        for_connections = (let most = was.spare.for_connections in let dials = ap (λ (d : Dialler). d.most) dialler in let room = ap (λ (r : Room). r.connections) spare in omega arith);
      };
    }

pub returns-clause-noted : goal.returns-clause-noted
returns-clause-noted c = λ shared old new rest noted was. (let set_up = was.set_up in subst (IsAtWork shared) (sym rest) (record {
  linked = was.linked;
  in_order = was.in_order;
  set_up = record {
    table = set_up.table;
    depth = set_up.depth;
    sessions = set_up.sessions;
    few = set_up.few;
    routes = set_up.routes;
    few_routes = set_up.few_routes;
    noted = subst (λ (e : Engine). AreNoted new.lines.unkept.items e.sessions.desk.board) rest noted;
    steady = set_up.steady;
    buffer = set_up.buffer;
  };
  moment = was.moment;
  most = was.most;
  few = was.few;
}))

pub returns-clause-noted_online : goal.returns-clause-noted_online
returns-clause-noted_online c = λ old new door links rest was. subst (λ (e : Engine). IsOnline e door links) (sym rest) (record {
  wired = was.wired;
  dialling = was.dialling;
  accepted = was.accepted;
  apart = was.apart;
  in_order = record { accepted = was.in_order.accepted; dialled = was.in_order.dialled };
  few_accepted = was.few_accepted;
  few_dialled = was.few_dialled;
  came = was.came;
  spare = record { for_sessions = was.spare.for_sessions; for_connections = was.spare.for_connections };
})

pub returns-clause-known : goal.returns-clause-known
returns-clause-known c = λ shared e before after old new knows was. record {
  agree = was.agree;
  room = was.room;
  work = was.work;
  online = λ standing. (let online = was.online standing in record {
    wired = c.wires_stay_known.ensures.wired e.sessions.desk.board (open_places e.lines) before after old new knows online.wired;
    dialling = c.wires_stay_known.ensures.dialling e.sessions.desk.board e.dialler before after old new knows online.dialling;
    accepted = online.accepted ∙ sym knows.accepted;
    apart = online.apart;
    in_order = online.in_order;
    few_accepted = online.few_accepted;
    few_dialled = online.few_dialled;
    came = online.came;
    spare = online.spare;
  });
}
