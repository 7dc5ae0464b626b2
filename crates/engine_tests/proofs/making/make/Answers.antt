use Rattle.std.proofs.Common.{List, length, refl, subst, sym, ap, arith}
use Rattle.connection_core.specs.Connection.{ConnectionState}
use Rattle.engine_end.specs.Room.{Room}
use Rattle.engine_tests.specs.Outside.{IsOver}
use Rattle.engine_tests.proofs.making.make.Goals as goal

pub returns-clause-running : goal.returns-clause-running
returns-clause-running c =
    let start = c.in_ok-engine.ensures in
    subst (IsOver c.in_ok-engine.shared c.in_ok-engine.engine) (sym c.new.ensures)
    (record {
      agree = start.work.set_up.steady.in_step.agree;
      room = record {
        for_sessions = (let room = ap (λ (r : Room). r.sessions) start.figures.spare in let count = start.sessions.count in omega arith);
        for_connections = (let none = ap (λ (cs : List ConnectionState). length cs) start.sessions.first.connections in omega arith);
      };
      work = λ going. start.work;
      online = λ going. start.online _ _ refl refl;
    })
