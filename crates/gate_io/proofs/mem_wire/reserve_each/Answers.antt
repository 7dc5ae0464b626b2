use Rattle.std.proofs.Common.{arith}
use Rattle.gate_io.proofs.WireFacts.{ReservedBelow-more}
use Rattle.gate_io.proofs.mem_wire.reserve_each.Goals as goal

pub loop-link-preserved : goal.loop-link-preserved
loop-link-preserved c =
    ReservedBelow-more c.args.n c.loop-link.link-index c.loop-link.links c.args.links.now c.link-item.result c.reserve.new.self
    (omega (arith, c.loop-link-test.true)) (omega (arith, c.loop-link.auto.links)) c.loop-link.invariant c.in_ok-reserve.ensures.ok c.reserve.ensures.kept
