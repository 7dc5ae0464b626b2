use Rattle.engine_speed.specs.Over.{IsOver}
use Rattle.engine_speed.proofs.answering.answer_all.Given as goal

abbrev pub invariant-loop-round : goal.invariant-loop-round
invariant-loop-round l = IsOver l.shared l.gateway.engine l.gateway.wire
