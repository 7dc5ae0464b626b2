use Rattle.std.proofs.Common.{◌≡◌, ◌<◌, ◌∷◌, ◌++◌, [], List, length, set, sym, ap, subst, ◌∙◌, append_assoc, arith}
use Rattle.std.proofs.lemmas.List.{get_or_default}
use Rattle.std.specs.Vec.Iter.{into_iter_items}
use Rattle.engine_start.proofs.Reading.{entry_follows, numbers_stay, record_at, revived_one_more}
use Rattle.engine_start.specs.Revived.{after_record, new_revived, revived_at}
use Rattle.engine_start.specs.declared.reviving.Revived.{Revived}
use Rattle.lease_core.specs.Runs.{IsNext}
use Rattle.lease_core.specs.State.{state_of}
use Rattle.lease_core.specs.declared.record.Record.{Record}
use Rattle.engine_start.proofs.reviving.revive.Goals as goal

pub take-requires-clause-follows : goal.take-requires-clause-follows
take-requires-clause-follows c =
    let so_far = c.loop-next in
    let next = c.in-Some.next in
    let rest = into_iter_items c.next.new.self in
    let split : so_far.yielded ++ next ∷ rest ≡ c.args.records.items = ap (λ (rs : List Record). so_far.yielded ++ rs) (sym c.in-Some.ensures.steps.0) ∙ so_far.invariant.all in
    let can = record_at c.args.config.now c.args.records.items so_far.yielded rest next split c.requires in
    let within : next.s < length so_far.revived.items = (let count = so_far.invariant.revived.count_is in let small = can.session in omega arith) in
    let was : c.index_mut.result.now ≡ revived_at so_far.revived.items next.s = c.index_mut.ensures.value ∙ get_or_default so_far.revived.items next.s c.index_mut.result.now (new_revived 0) within in
    subst (λ (x : Revived). IsNext x.revival.leases (state_of x.revival.entries) next.entry) (sym was)
    (entry_follows c.entries_decide_one_by_one.ensures.runs c.args.config.now c.args.records.items so_far.yielded rest next so_far.revived.items split c.requires so_far.invariant.revived)

pub loop-next-preserved : goal.loop-next-preserved
loop-next-preserved c =
    let so_far = c.loop-next in
    let next = c.in-Some.next in
    let rest = into_iter_items c.next.new.self in
    let old = so_far.revived.items in
    let split : so_far.yielded ++ next ∷ rest ≡ c.args.records.items = ap (λ (rs : List Record). so_far.yielded ++ rs) (sym c.in-Some.ensures.steps.0) ∙ so_far.invariant.all in
    let can = record_at c.args.config.now c.args.records.items so_far.yielded rest next split c.requires in
    let count = so_far.invariant.revived.count_is in
    let within : next.s < length old = (let small = can.session in omega arith) in
    let was : c.index_mut.result.now ≡ revived_at old next.s = c.index_mut.ensures.value ∙ get_or_default old next.s c.index_mut.result.now (new_revived 0) within in
    let is : set old next.s c.take.new.revived ≡ set old next.s (after_record next (revived_at old next.s)) = ap (λ (x : Revived). set old next.s x) (c.in_ok-take.ensures ∙ ap (after_record next) was) in
    let names = c.args.config.now.names in
    record {
      all = append_assoc so_far.yielded (next ∷ []) rest ∙ split;
      revived = revived_one_more (length names) next old (set old next.s c.take.new.revived) can.session is count c.args.config.now.leases so_far.yielded so_far.invariant.revived;
      numbers = numbers_stay (length names) next old (set old next.s c.take.new.revived) can.session is count can.expected_from can.expected_to so_far.invariant.numbers;
    }
