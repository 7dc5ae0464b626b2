use Rattle.std.proofs.Common.{◌≡◌, ◌≤◌, List, length, refl, subst, sym, ap, ◌∙◌, arith}
use Rattle.connection_core.specs.Connection.{ConnectionState}
use Rattle.engine_loop.specs.Room.{Room}
use Rattle.engine_loop.specs.Engines.{IsEngine}
use Rattle.gate_io.specs.MemWire.{WireState, door_of, link_at}
use Rattle.script_run.proofs.starting.start.Goals as goal

pub returns-clause-running : goal.returns-clause-running
returns-clause-running c =
    let start = c.in_ok-engine.ensures in
    record {
      engine = subst (λ (w : WireState). IsEngine c.in_ok-engine.shared c.in_ok-engine.engine (door_of w) (link_at w)) (sym c.new.ensures) (record {
        agree = start.work.set_up.steady.in_step.agree;
        room = record {
          for_sessions = (let room = ap (λ (r : Room). r.sessions) start.figures.spare in let count = start.sessions.count in omega arith);
          for_connections = (let none = ap (λ (cs : List ConnectionState). length cs) start.sessions.first.connections in omega arith);
        };
        work = λ going. start.work;
        online = λ going. start.online _ _ refl refl;
      });
      callers = record {
        commands = c.in_ok-callers.ensures.count ∙ start.libraries.count ∙ sym start.table.rings.commands;
        notices = c.in_ok-callers.ensures.count ∙ start.libraries.count ∙ sym start.table.rings.notices;
        each = λ place caller at. (c.in_ok-callers.ensures.each place caller at).is;
      };
    }
