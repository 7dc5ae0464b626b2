use Rattle.gate_io.proofs.WireFacts.{ReservedBelow}
use Rattle.gate_io.proofs.mem_wire.reserve_each.Given as goal

abbrev pub invariant-loop-link : goal.invariant-loop-link
invariant-loop-link l = ReservedBelow l.n l.link-index l.links l.initial.links
