use Rattle.std.proofs.Common.{rules, ◌≡◌, ap}
use Rattle.lease_words.proofs.MeetingCalls.{some_words, joins_step}
use Rattle.lease_words.proofs.LibraryCalls.{library_rests}
use Rattle.lease_words.proofs.leases.Leases.settle.Goals as goal

pub join_seat-requires : goal.join_seat-requires
join_seat-requires c =
    let shape : c.library.inside.seat.me.0.shape ≡ c.self.inside.table.shared.key = search rules in
    let rests = library_rests _ _ _ _ _ c.library.invariant shape in
    (search rules, search rules, ap (λ m. m.1) rests, some_words _ _ _ _ _ _ c.self.invariant, joins_step _ _ _ _ _ _ (ap (λ m. m.0.engine) c.seat.invariant.rests) (ap (λ m. m.0) rests))
