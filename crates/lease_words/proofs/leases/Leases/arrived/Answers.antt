use Rattle.std.proofs.Common.{rules, ◌≡◌, ◌<◌, subst}
use Rattle.lease_words.proofs.Tokens.{published_within}
use Rattle.lease_words.proofs.LibraryCalls.{library_rests}
use Rattle.lease_words.proofs.LibraryAnswers.{arrive_step, arrive_owes}
use Rattle.lease_words.proofs.leases.Leases.arrived.Goals as goal

pub load-requires : goal.load-requires
load-requires c =
    let shape : c.seat.inside.seat.me.0.shape ≡ c.self.inside.table.shared.key = search rules in
    let here = subst (λ n. c.args.s < n) c.self.invariant.sessions_are c.if-s-self.false in
    (search rules, published_within _ _ _ _ _ _ _ _ c.self.invariant here c.published_word.ensures, arrive_step _ _ _ c.args.s _ _ _ (library_rests _ _ _ _ _ c.seat.invariant shape) here c.published_word.ensures)

pub invariant_of-seat : goal.invariant_of-seat
invariant_of-seat c =
    let shape : c.seat.inside.seat.me.0.shape ≡ c.self.inside.table.shared.key = search rules in
    let here = subst (λ n. c.args.s < n) c.self.invariant.sessions_are c.if-s-self.false in
    arrive_owes _ _ _ _ _ _ c.seat.invariant shape 0 c.args.s _ _ here c.published_word.ensures c.load.ensures.2
