use Rattle.engine_tests.specs.Outside.{IsOver}
use Rattle.engine_tests.proofs.playing.trickles.Given as goal

abbrev pub invariant-loop-byte : goal.invariant-loop-byte
invariant-loop-byte l = IsOver l.shared l.gateway.engine l.gateway.wire.wire
