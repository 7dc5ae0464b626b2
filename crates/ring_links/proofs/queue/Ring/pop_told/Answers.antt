use Rattle.std.proofs.Common.{arith, ℕ, ◌<◌, length, drop, ap, ◌∙◌, drop-drop, length-drop}
use Rattle.ring_links.proofs.Closing.{take_next, joined}
use Rattle.ring_links.proofs.queue.Ring.pop_told.Goals as goal

pub loop-preserved : goal.loop-preserved
loop-preserved g c =
    let i = c.loop.invariant in
    let k : ℕ = c.loop.counter in
    let told = c.args.head.now.told in
    let some_left : 0 < length c.loop.head.told = omega (arith, ap length i.2, length-drop k told, c.requires.count) in
    let next = take_next told c.loop.head.told k c.in-Some.item i.2 (c.in-Some.ensures.first some_left) in (
      c.in-Some.ensures.ring ∙ i.0,
      joined _ _ _ told k c.in-Some.item i.1 c.in-Some.ensures.popped next,
      c.in-Some.ensures.told ∙ (ap (λ l. drop 1 l) i.2 ∙ drop-drop 1 k told),
      joined _ _ _ told k c.in-Some.item i.3 c.push_reserved.ensures.items next,
      c.push_reserved.ensures.capacity ∙ i.4,
    )
