use Rattle.engine_tests.specs.Outside.{IsOver}
use Rattle.engine_tests.proofs.playing.turns.Given as goal

abbrev pub invariant-loop-turn : goal.invariant-loop-turn
invariant-loop-turn l = IsOver l.shared l.gateway.engine l.gateway.wire.wire
