use Rattle.session_speed.specs.Market.{IsOpen}
use Rattle.session_speed.proofs.market.Answerer.bring.Given as goal

abbrev pub invariant-loop-piece : goal.invariant-loop-piece
invariant-loop-piece l = IsOpen l.board
