use Rattle.std.proofs.Common.{◌≤◌, List, length, ap, subst, arith}
use Rattle.engine_end.specs.Room.{Room}
use Rattle.engine_loop.specs.Turns.{at_wire}
use Rattle.session_core.specs.declared.names.Names.{Names}
use Rattle.example_broker.specs.Traders.{AreNewTraders}
use Rattle.example_broker.proofs.Driven.{if_ok}
use Rattle.example_broker.proofs.running.run.Goals as goal

pub run_all-requires-clause-engine : goal.run_all-requires-clause-engine
run_all-requires-clause-engine g c κs within =
    let start = c.in_ok-engine.ensures in
    record {
      agree = start.work.set_up.steady.in_step.agree;
      room = record {
        for_sessions = (let room = ap (λ (r : Room). r.sessions) start.figures.spare in let count = start.sessions.count in omega arith);
        for_connections = (let none = ap (λ cs. length cs) start.sessions.first.connections in omega arith);
      };
      work = λ going. start.work;
      online = λ going. start.online _ _ c.requires.accepted c.requires.dialled;
    }

pub returns-clause-runs : goal.returns-clause-runs
returns-clause-runs g c =
    let start = c.in_ok-engine.ensures in
    if_ok _ _ c.leave.result (λ left leaves. record {
      moment = c.min-moment.result;
      shared = c.in_ok-engine.shared;
      begun = at_wire c.in_ok-engine.engine (g.W.Wire.door c.args.wire.now) (g.W.Wire.link c.args.wire.now);
      sessions = start.sessions;
      desk = start.desk;
      begin = c.in_ok-traders.traders;
      traders = subst (λ (names : List Names). AreNewTraders c.in_ok-engine.shared c.args.config.asks (length names) c.in_ok-traders.traders) c.as_slice-sessions.ensures c.in_ok-traders.ensures.new;
      ended = at_wire c.run_all.new.engine (g.W.Wire.door c.run_all.new.wire) (g.W.Wire.link c.run_all.new.wire);
      drives = c.in_ok-run_all.ensures.drives;
      end = c.run_all.new.traders;
      trade = c.run_all.ensures.trade;
      leaves = leaves;
    }) c.leave.ensures.leaves
