use Rattle.std.proofs.Common.{arith}
use Rattle.engine_loop.proofs.engine.Engine.write_all.Goals as goal

pub returns-clause-room : goal.returns-clause-room
returns-clause-room g c =
    let room = c.requires.room in
    record {
      for_sessions = (let most = room.for_sessions in let count = c.write_all_open.ensures.sessions_stay in omega arith);
      for_connections = (let most = room.for_connections in let count = c.write_all_open.ensures.none_comes in omega arith);
    }
