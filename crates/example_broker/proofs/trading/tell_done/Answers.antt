use Rattle.std.proofs.Common.{◌∙◌}
use Rattle.example_broker.proofs.Moves.{repeats_more}
use Rattle.example_broker.proofs.trading.tell_done.Goals as goal

pub telling-preserved : goal.telling-preserved
telling-preserved g c = record {
  tries = repeats_more _ _ _ _ c.telling.invariant.tries (c.say_done.ensures.unsaid c.if-say_done.false);
  belongings_stay = c.say_done.ensures.belongings ∙ c.telling.invariant.belongings_stay;
}
