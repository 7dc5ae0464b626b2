use Rattle.std.proofs.Common.{rules, ◌≡◌, ◌<◌, ◌-◌, ap, sym, subst, refl, Some, ◌∙◌}
use Rattle.lease_words.specs.Facts.{OthersTaken}
use Rattle.lease_words.specs.Views.{engine_session}
use Rattle.lease_words.specs.Layout.{slot_of}
use Rattle.lease_words.proofs.Tokens.{taken_within}
use Rattle.lease_words.proofs.TakeCalls.{kept, few, take_loads, fetched, take_stores, take_owes, take_seen, take_waits, take_others, take_rest, take_told, take_settled, take_slot, take_out, if_some}
use Rattle.lease_words.proofs.leases.Leases.take.Goals as goal

pub load-taken-requires : goal.load-taken-requires
load-taken-requires c =
    let shape : c.seat.inside.seat.me.0.shape ≡ c.self.inside.table.shared.key = search rules in
    let here = subst (λ n. c.args.s < n) (ap (λ t. t.shape.sessions) (sym c.self.view_is)) c.requires.session in (
      search rules,
      taken_within _ _ _ _ _ _ _ _ _ c.self.invariant here (few _ _ _ _ _ c.seat.invariant shape c.self.invariant.shape here c.index-row.ensures) c.taken_word-word.ensures,
      take_loads _ _ _ _ _ c.seat.invariant shape c.self.invariant.shape here c.index-row.ensures _ _ c.taken_word-word.ensures c.if-row-eq0.false,
    )

pub slot_of-slot-requires-clause-library : goal.slot_of-slot-requires-clause-library
slot_of-slot-requires-clause-library c =
    let shape : c.seat.inside.seat.me.0.shape ≡ c.self.inside.table.shared.key = search rules in
    let here = subst (λ n. c.args.s < n) (ap (λ t. t.shape.sessions) (sym c.self.view_is)) c.requires.session in
    let f = fetched _ _ _ _ _ c.seat.invariant shape c.self.invariant.shape here c.index-row.ensures c.load-taken.new.seat 0 _ _ c.taken_word-word.ensures c.load-taken.ensures.2 in
    (f.told.from_one, few _ _ _ _ _ c.seat.invariant shape c.self.invariant.shape here c.index-row.ensures)

pub exchange-item-requires : goal.exchange-item-requires
exchange-item-requires c =
    let shape : c.seat.inside.seat.me.0.shape ≡ c.self.inside.table.shared.key = search rules in
    let here = subst (λ n. c.args.s < n) (ap (λ t. t.shape.sessions) (sym c.self.view_is)) c.requires.session in
    let f = fetched _ _ _ _ _ c.seat.invariant shape c.self.invariant.shape here c.index-row.ensures c.load-taken.new.seat 0 _ _ c.taken_word-word.ensures c.load-taken.ensures.2 in
    (search rules, (Some f.item, take_slot _ _ _ _ _ c.seat.invariant shape c.self.invariant.shape here c.index-row.ensures _ _ _ _ f c.self.invariant.libraries_are c.slot_of-slot.ensures))

pub store-requires : goal.store-requires
store-requires c =
    let shape : c.seat.inside.seat.me.0.shape ≡ c.self.inside.table.shared.key = search rules in
    let here = subst (λ n. c.args.s < n) (ap (λ t. t.shape.sessions) (sym c.self.view_is)) c.requires.session in
    let f = fetched _ _ _ _ _ c.seat.invariant shape c.self.invariant.shape here c.index-row.ensures c.load-taken.new.seat 0 _ _ c.taken_word-word.ensures c.load-taken.ensures.2 in (
      search rules,
      taken_within _ _ _ _ _ _ _ _ _ c.self.invariant here (few _ _ _ _ _ c.seat.invariant shape c.self.invariant.shape here c.index-row.ensures) c.taken_word-word.ensures,
      take_stores _ _ _ _ _ c.seat.invariant shape c.self.invariant.shape here c.index-row.ensures c.load-taken.new.seat c.exchange-item.new.seat _ _ _ _ _ f c.taken_word-word.ensures
          (c.slot_of-slot.ensures ∙ ap (λ n. slot_of n c.args.s c.index-row.result.now.library c.load-taken.result) c.self.invariant.libraries_are) c.exchange-item.ensures.3 refl,
    )

pub invariant_of-seat : goal.invariant_of-seat
invariant_of-seat c =
    let shape : c.seat.inside.seat.me.0.shape ≡ c.self.inside.table.shared.key = search rules in
    let here = subst (λ n. c.args.s < n) (ap (λ t. t.shape.sessions) (sym c.self.view_is)) c.requires.session in
    let f = fetched _ _ _ _ _ c.seat.invariant shape c.self.invariant.shape here c.index-row.ensures c.load-taken.new.seat 0 _ _ c.taken_word-word.ensures c.load-taken.ensures.2 in
    let same : c.index_mut.result.now ≡ c.index-row.result.now = kept _ _ _ _ _ c.seat.invariant shape c.self.invariant.shape here c.index_mut.ensures.value ∙ sym (kept _ _ _ _ _ c.seat.invariant shape c.self.invariant.shape here c.index-row.ensures) in
    take_owes _ _ _ _ _ c.seat.invariant shape c.self.invariant.shape here c.index-row.ensures c.load-taken.new.seat c.exchange-item.new.seat _ 0 0 _ _ 0 f c.exchange-item.ensures.3 c.store.ensures.2 c.if-row-eq0.false _
    (λ j. record { lease = (same j).lease; library = (same j).library; count = (same j).count; pending = (same j).pending - 1 })

pub returns-clause-item : goal.returns-clause-item
returns-clause-item c =
    let shape : c.seat.inside.seat.me.0.shape ≡ c.self.inside.table.shared.key = search rules in
    let here = subst (λ n. c.args.s < n) (ap (λ t. t.shape.sessions) (sym c.self.view_is)) c.requires.session in
    let f = fetched _ _ _ _ _ c.seat.invariant shape c.self.invariant.shape here c.index-row.ensures c.load-taken.new.seat 0 _ _ c.taken_word-word.ensures c.load-taken.ensures.2 in
    if_some _ _ f.item (take_out _ _ _ _ _ c.seat.invariant shape c.self.invariant.shape here c.index-row.ensures _ _ _ _ f c.exchange-item.ensures.2)
    (take_seen _ _ _ _ _ c.seat.invariant shape c.self.invariant.shape here c.index-row.ensures c.load-taken.new.seat c.exchange-item.new.seat c.store.new.seat 0 0 _ _ 0 f _ c.seat.view_is (search rules) c.exchange-item.ensures.3 c.store.ensures.2)

pub returns-clause-settled : goal.returns-clause-settled
returns-clause-settled c =
    let shape : c.seat.inside.seat.me.0.shape ≡ c.self.inside.table.shared.key = search rules in
    let here = subst (λ n. c.args.s < n) (ap (λ t. t.shape.sessions) (sym c.self.view_is)) c.requires.session in
    let f = fetched _ _ _ _ _ c.seat.invariant shape c.self.invariant.shape here c.index-row.ensures c.load-taken.new.seat 0 _ _ c.taken_word-word.ensures c.load-taken.ensures.2 in
    if_some _ _ f.item (take_out _ _ _ _ _ c.seat.invariant shape c.self.invariant.shape here c.index-row.ensures _ _ _ _ f c.exchange-item.ensures.2)
    (take_settled _ _ _ _ _ c.seat.invariant shape c.self.invariant.shape here c.index-row.ensures _ _ f _ c.seat.view_is)

pub returns-clause-pending : goal.returns-clause-pending
returns-clause-pending c =
    let shape : c.seat.inside.seat.me.0.shape ≡ c.self.inside.table.shared.key = search rules in
    let here = subst (λ n. c.args.s < n) (ap (λ t. t.shape.sessions) (sym c.self.view_is)) c.requires.session in
    let f = fetched _ _ _ _ _ c.seat.invariant shape c.self.invariant.shape here c.index-row.ensures c.load-taken.new.seat 0 _ _ c.taken_word-word.ensures c.load-taken.ensures.2 in
    if_some _ _ f.item (take_out _ _ _ _ _ c.seat.invariant shape c.self.invariant.shape here c.index-row.ensures _ _ _ _ f c.exchange-item.ensures.2)
    (take_waits _ _ _ _ _ c.seat.invariant shape c.self.invariant.shape here c.index-row.ensures c.load-taken.new.seat c.exchange-item.new.seat c.store.new.seat 0 0 _ _ 0 f _ c.seat.view_is c.exchange-item.ensures.3 c.store.ensures.2 c.if-row-eq0.false)

pub returns-clause-lanes : goal.returns-clause-lanes
returns-clause-lanes c =
    let shape : c.seat.inside.seat.me.0.shape ≡ c.self.inside.table.shared.key = search rules in
    let here = subst (λ n. c.args.s < n) (ap (λ t. t.shape.sessions) (sym c.self.view_is)) c.requires.session in
    let f = fetched _ _ _ _ _ c.seat.invariant shape c.self.invariant.shape here c.index-row.ensures c.load-taken.new.seat 0 _ _ c.taken_word-word.ensures c.load-taken.ensures.2 in
    if_some _ _ f.item (take_out _ _ _ _ _ c.seat.invariant shape c.self.invariant.shape here c.index-row.ensures _ _ _ _ f c.exchange-item.ensures.2)
    (take_others _ _ _ _ _ c.seat.invariant shape c.self.invariant.shape here c.index-row.ensures c.load-taken.new.seat c.exchange-item.new.seat c.store.new.seat 0 0 _ _ 0 f _ c.seat.view_is c.exchange-item.ensures.3 c.store.ensures.2)

pub returns-clause-others : goal.returns-clause-others
returns-clause-others c =
    let shape : c.seat.inside.seat.me.0.shape ≡ c.self.inside.table.shared.key = search rules in
    let here = subst (λ n. c.args.s < n) (ap (λ t. t.shape.sessions) (sym c.self.view_is)) c.requires.session in
    let f = fetched _ _ _ _ _ c.seat.invariant shape c.self.invariant.shape here c.index-row.ensures c.load-taken.new.seat 0 _ _ c.taken_word-word.ensures c.load-taken.ensures.2 in
    if_some _ _ f.item (take_out _ _ _ _ _ c.seat.invariant shape c.self.invariant.shape here c.index-row.ensures _ _ _ _ f c.exchange-item.ensures.2)
    (subst (λ n. OthersTaken n (engine_session c.store.new.seat.me.0.knows c.args.s)) (ap (λ t. t.shape.libraries) c.self.view_is)
    (take_rest _ _ _ _ _ c.seat.invariant shape c.self.invariant.shape here c.index-row.ensures c.load-taken.new.seat c.exchange-item.new.seat c.store.new.seat 0 0 _ _ 0 f c.exchange-item.ensures.3 c.store.ensures.2))

pub returns-clause-told : goal.returns-clause-told
returns-clause-told c =
    let shape : c.seat.inside.seat.me.0.shape ≡ c.self.inside.table.shared.key = search rules in
    let here = subst (λ n. c.args.s < n) (ap (λ t. t.shape.sessions) (sym c.self.view_is)) c.requires.session in
    let f = fetched _ _ _ _ _ c.seat.invariant shape c.self.invariant.shape here c.index-row.ensures c.load-taken.new.seat 0 _ _ c.taken_word-word.ensures c.load-taken.ensures.2 in
    if_some _ _ f.item (take_out _ _ _ _ _ c.seat.invariant shape c.self.invariant.shape here c.index-row.ensures _ _ _ _ f c.exchange-item.ensures.2)
    (take_told _ _ _ _ _ c.seat.invariant shape c.self.invariant.shape here c.index-row.ensures c.load-taken.new.seat c.exchange-item.new.seat c.store.new.seat 0 0 _ _ 0 f _ c.seat.view_is (search rules) c.exchange-item.ensures.3 c.store.ensures.2)
