use Rattle.std.proofs.Common.{rules, ap, ◌∙◌}
use Rattle.ring_links.specs.Order.{both_view}
use Rattle.ring_links.proofs.Meeting.{parts, joins}
use Rattle.ring_links.proofs.Steps.{compares_step}
use Rattle.ring_links.proofs.queue.Ring.meet.Goals as goal

pub split_seat-moving-requires : goal.split_seat-moving-requires
split_seat-moving-requires g c = (search rules, search rules, parts _ _ _ (ap (λ m. m.0.pops) c.head.invariant.rests))

pub join_seat-requires : goal.join_seat-requires
join_seat-requires g c =
    let moving = c.split_seat-moving.ensures.4 in
    (search rules, search rules, search rules, search rules, joins _ _ _ _ _ (ap (λ m. m.0.pushes) c.tail.invariant.rests) (ap (λ m. m.0.pops) moving ∙ ap (λ m. m.0.pops) c.head.invariant.rests))

pub load-requires : goal.load-requires
load-requires g c =
    let moving = c.split_seat-moving.ensures.4 in
    let t = c.tail.inside.seat.me.0.tail in (
      search rules,
      search rules,
      compares_step _ _ _ c.self.invariant.1 _ t c.head.inside.seat.me.0.head (c.join_seat.ensures.2 ∙ (λ i. (both_view t (moving i).0.head, (c.tail.invariant.rests i).1))) c.head.invariant.idle,
    )

pub split_seat-requires : goal.split_seat-requires
split_seat-requires g c = (search rules, search rules, parts _ _ _ (ap (λ m. m.0.pops) c.load.ensures.2.1))
