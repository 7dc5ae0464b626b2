use Rattle.std.proofs.Common.{rules, ◌≡◌, ℕ, ◌+◌, ◌%◌, length, false, refl, sym, ap, ap₂, ◌∙◌}
use Rattle.std.proofs.lemmas.Bool.Decides.{when_false}
use Rattle.ring_links.specs.Order.{is_full, tail_after_claim}
use Rattle.ring_links.proofs.Steps.{claims_step, pushes_step, exchanged}
use Rattle.ring_links.proofs.queue.Ring.push.Goals as goal

pub load-taken-requires : goal.load-taken-requires
load-taken-requires g c = (search rules, search rules, claims_step _ _ _ c.self.invariant.1 _ _ c.tail.invariant.rests c.tail.invariant.idle)

pub store-requires : goal.store-requires
store-requires g c =
    let at = c.tail.invariant.at in
    let r : ℕ = c.load-taken.result in
    let room : is_full c.self.inside.table.shared.table_id.slots (length c.tail.inside.seat.me.0.tail.items) r ≡ false =
    ap₂ (λ (k p : ℕ). is_full k p r) (sym c.slot_count-capacity.ensures) (sym at.count) ∙ (sym c.has_no_room.ensures ∙ c.if-has_no_room.false) in
    let slots : c.tail.inside.seat.table_id.slots ≡ c.self.inside.table.shared.table_id.slots = search rules in (
      search rules,
      search rules,
      pushes_step _ _ _ c.self.invariant.1 _ (tail_after_claim c.tail.inside.seat.me.0.tail r) _ _ c.args.item
          (exchanged _ _ _ _ _ _ _ (when_false _ _ room c.load-taken.ensures.2.1) c.exchange-vacant.ensures.3)
          (at.place ∙ ap₂ (λ (k n : ℕ). k % n) at.count slots) refl (ap (λ (k : ℕ). k + 1) at.count),
    )
