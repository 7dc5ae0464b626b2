use Rattle.std.proofs.Common.{arith}
use Rattle.std.proofs.lemmas.Grind.{common_steps}
use Rattle.switchboard.proofs.Stopping.{on_err, tick_stops}
use Rattle.switchboard.proofs.board.Switchboard.tick.Goals as goal
use Rattle.switchboard.proofs.board.Switchboard.tick.Goals.{in-Some, in-None}

pub returns-clause-happens : goal.returns-clause-happens
returns-clause-happens c = elim c.match-index.branch [
  | in-Some w ↦ record {
    desk = grind (arith, common_steps);
    goes_on = record {
      within = c.requires.session;
      others = grind (arith, common_steps);
      bound = grind (arith, common_steps);
      on = grind (arith, common_steps);
      lawful = record { same = grind (arith, common_steps); lawful = grind (arith, common_steps) };
    };
  }
  | in-None w ↦ record {
    desk = grind (arith, common_steps);
    goes_on = record {
      within = c.requires.session;
      others = grind (arith, common_steps);
      bound = grind (arith, common_steps);
      on = grind (arith, common_steps);
      lawful = record { same = grind (arith, common_steps); lawful = grind (arith, common_steps) };
    };
  }
]

pub returns-in_err-end-clause-stops : goal.returns-in_err-end-clause-stops
returns-in_err-end-clause-stops c = elim c.match-index.branch [
  | in-Some w ↦ on_err c.from_residual.result (tick_stops c.args.s c.args.at c.args.self.now _ c.requires.session (grind (arith, common_steps)) (grind (arith, common_steps)) (grind (arith, common_steps)))
  | in-None w ↦ on_err c.from_residual.result (tick_stops c.args.s c.args.at c.args.self.now _ c.requires.session (grind (arith, common_steps)) (grind (arith, common_steps)) (grind (arith, common_steps)))
]
