use Rattle.std.proofs.Common.{rules, arith, ap}
use Rattle.ring_links.proofs.Meeting.{opens, parts}
use Rattle.ring_links.proofs.making.ring.Goals as goal

pub vacant-requires : goal.vacant-requires
vacant-requires g c = opens _ (omega arith)

pub split_seat-head_seat-requires : goal.split_seat-head_seat-requires
split_seat-head_seat-requires g c = (search rules, search rules, parts _ _ _ (ap (λ m. m.0.pops) c.in_ok-table.ensures.4))
