use Rattle.engine_speed.specs.Over.{IsOver}
use Rattle.engine_speed.proofs.apart.drive_all.Given as goal

abbrev pub invariant-loop-turn : goal.invariant-loop-turn
invariant-loop-turn l = IsOver l.shared l.gateway.engine l.gateway.wire
