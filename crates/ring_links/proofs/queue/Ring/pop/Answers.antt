use Rattle.std.proofs.Common.{rules, arith, ◌≡◌, ℕ, ◌%◌, [], ◌∷◌, length, eqb, false, Some, refl, sym, ap₂, ◌∙◌, ne_eqb, length-append}
use Rattle.std.proofs.lemmas.Bool.Decides.{when_false}
use Rattle.ring_links.specs.Order.{head_after_fetch}
use Rattle.ring_links.proofs.Steps.{fetches_step, releases_step, exchanged, first_slot}
use Rattle.ring_links.proofs.queue.Ring.pop.Goals as goal

pub load-pushed-requires : goal.load-pushed-requires
load-pushed-requires g c = (search rules, search rules, fetches_step _ _ _ c.self.invariant.1 _ _ c.head.invariant.rests c.head.invariant.idle)

pub exchange-item-requires : goal.exchange-item-requires
exchange-item-requires g c =
    let at = c.head.invariant.at in
    let m : ℕ = length c.head.inside.seat.me.0.head.items in
    let more : eqb c.load-pushed.result m ≡ false = ne_eqb _ _ (λ e. c.if-pushed-taken.false (e ∙ sym at.count)) in
    let slots : c.head.inside.seat.table_id.slots ≡ c.self.inside.table.shared.table_id.slots = search rules in
    let took = when_false _ _ more c.load-pushed.ensures.2.1 in
    (search rules, (Some took.0, first_slot _ _ _ _ _ took.1 (sym (at.place ∙ ap₂ (λ (k n : ℕ). k % n) at.count slots))))

pub store-requires : goal.store-requires
store-requires g c =
    let at = c.head.invariant.at in
    let m : ℕ = length c.head.inside.seat.me.0.head.items in
    let more : eqb c.load-pushed.result m ≡ false = ne_eqb _ _ (λ e. c.if-pushed-taken.false (e ∙ sym at.count)) in
    let slots : c.head.inside.seat.table_id.slots ≡ c.self.inside.table.shared.table_id.slots = search rules in
    let took = when_false _ _ more c.load-pushed.ensures.2.1 in
    let longer = length-append c.head.inside.seat.me.0.head.items (took.0 ∷ []) in (
      search rules,
      search rules,
      releases_step _ _ _ c.self.invariant.1 _ (head_after_fetch c.head.inside.seat.me.0.head c.load-pushed.result took.0) _ m _ (exchanged _ _ _ _ _ _ _ took.1 c.exchange-item.ensures.3)
          (at.place ∙ ap₂ (λ (k n : ℕ). k % n) at.count slots) refl (omega (arith, longer, at.count)) (omega (arith, longer)),
    )
