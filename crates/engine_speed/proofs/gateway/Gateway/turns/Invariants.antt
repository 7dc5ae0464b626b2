use Rattle.engine_speed.specs.Over.{IsOver}
use Rattle.engine_speed.proofs.gateway.Gateway.turns.Given as goal

abbrev pub invariant-loop-turn : goal.invariant-loop-turn
invariant-loop-turn l = IsOver l.shared l.self.engine l.self.wire
