use Rattle.std.proofs.Common.{rules}
use Rattle.ring_links.proofs.Steps.{looks_step}
use Rattle.ring_links.proofs.queue.Ring.room.Goals as goal

pub load-taken-requires : goal.load-taken-requires
load-taken-requires g c = (search rules, search rules, looks_step _ _ _ c.self.invariant.1 _ _ c.tail.invariant.rests c.tail.invariant.idle)
