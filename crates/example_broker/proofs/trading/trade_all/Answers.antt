use Rattle.std.proofs.Common.{◌∙◌}
use Rattle.example_broker.proofs.Moves.{trades_more, trades_short}
use Rattle.example_broker.proofs.trading.trade_all.Goals as goal

pub returns-then-is_done-clause-trades : goal.returns-then-is_done-clause-trades
returns-then-is_done-clause-trades g c = trades_more _ _ _ _ _ c.trading.invariant.number c.trading.invariant.trades c.in_ok-round.ensures.round

pub trading-preserved : goal.trading-preserved
trading-preserved g c = record {
  trades = trades_more _ _ _ _ _ c.trading.invariant.number c.trading.invariant.trades c.in_ok-round.ensures.round;
  number = c.round.ensures.number ∙ c.trading.invariant.number;
  belongings_stay = c.round.ensures.belongings ∙ c.trading.invariant.belongings_stay;
}
