use Rattle.std.proofs.Common.{List, length, ap, arith}
use Rattle.connection_core.specs.Connection.{ConnectionState}
use Rattle.engine_end.specs.Room.{Room}
use Rattle.gate_io.specs.MemWire.{door_of, link_at}
use Rattle.engine_speed.proofs.gateway.begin.Goals as goal

pub returns-clause-over : goal.returns-clause-over
returns-clause-over c =
    let start = c.in_ok-engine.ensures in
    let work = start.work in
    record {
      agree = work.in_order.in_step.agree;
      room = record {
        for_sessions = (let room = ap (λ (r : Room). r.sessions) start.figures.spare in let count = start.sessions.count in omega arith);
        for_connections = (let none = ap (λ (cs : List ConnectionState). length cs) start.sessions.first.connections in omega arith);
      };
      work = λ standing. work;
      online = λ standing. start.online (door_of c.args.wire) (link_at c.args.wire) c.requires.wire.accepted c.requires.wire.dialled;
    }
