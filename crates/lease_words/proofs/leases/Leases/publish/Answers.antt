use Rattle.std.proofs.Common.{rules, ◌≡◌, ◌<◌, ap, sym, subst, refl}
use Rattle.lease_words.proofs.Tokens.{published_within, same_engine}
use Rattle.lease_words.proofs.EngineCalls.{engine_rests, publish_step, publish_told}
use Rattle.lease_words.proofs.leases.Leases.publish.Goals as goal

pub store-requires : goal.store-requires
store-requires c =
    let shape : c.seat.inside.seat.me.0.shape ≡ c.self.inside.table.shared.key = search rules in
    let here = subst (λ n. c.args.s < n) (ap (λ t. t.shape.sessions) (sym c.self.view_is)) c.requires.session in
    (search rules, published_within _ _ _ _ _ _ _ _ c.self.invariant here c.published_word.ensures, publish_step _ _ _ c.args.s _ _ _ _ (engine_rests _ _ _ c.seat.invariant shape) here _ c.published_word.ensures (search rules))

pub invariant_of-seat : goal.invariant_of-seat
invariant_of-seat c =
    let shape : c.seat.inside.seat.me.0.shape ≡ c.self.inside.table.shared.key = search rules in
    let here = subst (λ n. c.args.s < n) (ap (λ t. t.shape.sessions) (sym c.self.view_is)) c.requires.session in
    same_engine _ _ _ _ _ c.args.s _ c.seat.invariant shape here (publish_told _ 0 _ _ c.args.count _ _ _ _ _ (engine_rests _ _ _ c.seat.invariant shape) c.published_word.ensures c.store.ensures.2) refl
