use Rattle.std.proofs.Common.{ℕ, refl, subst}
use Rattle.engine_loop.specs.Turns.{MakesTurn, at_wire}
use Rattle.gate_io.specs.MemWire.{door_of, link_at}
use Rattle.script_run.proofs.run.Run.turn_over.Goals as goal

pub returns-clause-turns : goal.returns-clause-turns
returns-clause-turns c =
    let made = c.in_ok-_turn.ensures in
    let old = c.args.self.now in
    record {
      shared = c.args.shared.now;
      work = c.requires.running.engine.work c.requires.stands;
      online = c.requires.running.engine.online c.requires.stands;
      turn = c.in_ok-_turn._turn;
      turns = subst (λ (n : ℕ). MakesTurn n (at_wire old.engine (door_of old.wire) (link_at old.wire)) (at_wire c.turn.new.self (door_of c.turn.new.wire) (link_at c.turn.new.wire)) c.in_ok-_turn._turn) made.reading.0 made.turns;
      clock = made.reading.1;
      rest = refl;
    }
