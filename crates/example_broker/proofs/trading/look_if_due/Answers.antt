use Rattle.std.proofs.Common.{◌∙◌}
use Rattle.example_broker.proofs.Moves.{looks_more}
use Rattle.example_broker.proofs.trading.look_if_due.Goals as goal

pub looking-preserved : goal.looking-preserved
looking-preserved g c = record {
  looks = looks_more _ _ c.looking.s _ _ _ c.looking.invariant.number c.looking.invariant.looks c.look_at.ensures.looks;
  number = c.look_at.ensures.number ∙ c.looking.invariant.number;
  belongings_stay = c.look_at.ensures.belongings ∙ c.looking.invariant.belongings_stay;
}
