use Rattle.std.proofs.Common.{◌⊎◌, inr, arith, subst}
use Rattle.switchboard.specs.Stops.{NothingIsTold}
use Rattle.wire_desk.specs.Steps.{Reads, sessions_of}
use Rattle.wire_desk.specs.Stops.{StopsBehindGot, StopsReading}
use Rattle.engine_loop.specs.Engines.{until_of}
use Rattle.engine_loop.proofs.Stopped.{on_err, tardy_untold}
use Rattle.engine_loop.proofs.engine.Engine.read_place.Goals as goal

pub returns-in_err-answer-clause-room : goal.returns-in_err-answer-clause-room
returns-in_err-answer-clause-room g c =
    let room = c.requires.room in
    record {
      for_sessions = (let most = room.for_sessions in let count = c.read.ensures.sessions_stay in omega arith);
      for_connections = (let most = room.for_connections in let count = c.read.ensures.none_comes in omega arith);
    }

pub returns-in_err-push-clause-stops : goal.returns-in_err-push-clause-stops
returns-in_err-push-clause-stops g c =
    let e = c.args.self.now in
    let k = c.args.k in
    let old = sessions_of e.sessions.desk e.lines.unkept.items in
    let new = sessions_of c.read.new.desk c.read.new.self.unkept.items in
    let reads = subst (λ until. Reads c.in_ok-answer.answer e.lines.routes k c.read.new.self.buffer.items e.moment until old new) c.until-until.ensures c.in_ok-answer.ensures.reads in
    let behind : StopsBehindGot e.lines.routes k e.moment (until_of e) old c.read.new.desk = record {
      got = c.in_ok-answer.answer;
      buffer = c.read.new.self.buffer.items;
      between = reads.between;
      reads = reads.reads;
      stops = tardy_untold k e.moment reads.between new reads.tardy;
    } in
    let stops : NothingIsTold e.sessions.desk.board c.read.new.desk.board ⊎ StopsReading e.lines.routes k e.moment (until_of e) old c.read.new.desk = inr (inr (inr behind)) in
    on_err c.from_residual-in_err-push.result stops

pub returns-in_err-answer-clause-stops : goal.returns-in_err-answer-clause-stops
returns-in_err-answer-clause-stops g c =
    let e = c.args.self.now in
    let old = sessions_of e.sessions.desk e.lines.unkept.items in
    let new = c.read.new.desk in
    let stops : NothingIsTold e.sessions.desk.board new.board ⊎ StopsReading e.lines.routes c.args.k e.moment (until_of e) old new =
    inr (subst (λ until. StopsReading e.lines.routes c.args.k e.moment until old new) c.until-until.ensures c.in_err-answer.ensures.stops) in
    on_err c.from_residual.result stops
