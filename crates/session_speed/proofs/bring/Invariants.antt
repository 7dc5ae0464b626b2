use Rattle.session_speed.specs.Market.{IsOpen}
use Rattle.session_speed.proofs.bring.Given as goal

abbrev pub invariant-loop-read : goal.invariant-loop-read
invariant-loop-read l = IsOpen l.board
