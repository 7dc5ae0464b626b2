use Rattle.std.proofs.Common.{rules, ap, sym, ◌∙◌}
use Rattle.ring_links.proofs.Meeting.{joins}
use Rattle.ring_links.proofs.Closing.{left_vacant}
use Rattle.ring_links.proofs.queue.Ring.close.Goals as goal

pub join_seat-requires : goal.join_seat-requires
join_seat-requires g c = (search rules, search rules, search rules, search rules, joins _ _ _ _ _ (ap (λ m. m.0.pushes) c.tail.invariant.rests) (ap (λ m. m.0.pops) c.head.invariant.rests))

pub discard-requires-clause-vacant : goal.discard-requires-clause-vacant
discard-requires-clause-vacant g c =
    left_vacant c.self.inside.table.shared.key c.join_seat.new.seat.id c.tail.inside.seat.me.0.tail c.head.inside.seat.me.0.head c.join_seat.new.seat.me.0 (ap (λ m. m.0) c.join_seat.ensures.2) c.tail.invariant.idle c.head.invariant.idle
    (ap (λ h. h.popped) c.head.view_is ∙ (c.requires.empty ∙ sym (ap (λ t. t.pushed) c.tail.view_is))) _ _ c.close_with.ensures.values.2
