use Rattle.std.proofs.Common.{arith}
use Rattle.std.proofs.lemmas.Grind.{common_steps}
use Rattle.switchboard.proofs.board.Switchboard.time_out.Goals as goal
use Rattle.switchboard.proofs.board.Switchboard.time_out.Goals.{in-Some, in-None}

pub returns-clause-happens : goal.returns-clause-happens
returns-clause-happens c = elim c.match-index.branch [
  | in-Some w ↦ record {
    can = c.requires.can;
    bodies_are = c.requires.bodies;
    desk = grind (arith, common_steps);
    goes_on = record {
      within = c.requires.session;
      others = grind (arith, common_steps);
      bound = grind (arith, common_steps);
      on = grind (arith, common_steps);
      lawful = record { same = grind (arith, common_steps); lawful = grind (arith, common_steps) };
    };
  }
  | in-None w ↦ record {
    can = c.requires.can;
    bodies_are = c.requires.bodies;
    desk = grind (arith, common_steps);
    goes_on = record {
      within = c.requires.session;
      others = grind (arith, common_steps);
      bound = grind (arith, common_steps);
      on = grind (arith, common_steps);
      lawful = record { same = grind (arith, common_steps); lawful = grind (arith, common_steps) };
    };
  }
]
