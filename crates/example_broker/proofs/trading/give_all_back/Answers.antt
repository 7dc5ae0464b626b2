use Rattle.std.proofs.Common.{◌∙◌}
use Rattle.example_broker.proofs.Moves.{gives_more}
use Rattle.example_broker.proofs.trading.give_all_back.Goals as goal

pub giving-preserved : goal.giving-preserved
giving-preserved c = record {
  gives = gives_more c.giving.s _ _ _ c.giving.invariant.gives c.give_back_if_held.ensures.gives;
  belongings_stay = c.give_back_if_held.ensures.belongings ∙ c.giving.invariant.belongings_stay;
}
