use Rattle.std.proofs.Common.{rules, ◌≡◌, ◌+◌, length, List, sym, ap, ◌∙◌, subst, arith}
use Rattle.lease_words.specs.declared.view.EngineKnows.{EngineKnows}
use Rattle.lease_words.specs.Registries.{kept_lines}
use Rattle.lease_words.specs.Views.{EngineView, LibraryView, engine_session, pending, new_library}
use Rattle.lease_words.specs.Tokens.{new_library_seat}
use Rattle.lease_words.proofs.MakingCalls.{IsMaking, deals, making_more, first_base, first_pending, first_lines}
use Rattle.lease_words.proofs.leases.Leases.make.Goals as goal

pub deal-requires-clause-some : goal.deal-requires-clause-some
deal-requires-clause-some c = (deals _ _ _ _ _ c.loop-number.invariant.making c.loop-number-test.true).some

pub deal-requires-clause-first : goal.deal-requires-clause-first
deal-requires-clause-first c = (deals _ _ _ _ _ c.loop-number.invariant.making c.loop-number-test.true).first ∙ ap (λ t. new_library t.shape c.loop-number.number) c.leases.view_is

pub loop-number-preserved : goal.loop-number-preserved
loop-number-preserved c =
    let dealt : c.in_ok-deal.field-0 ≡ new_library_seat (record { shape = c.leases.inside.table.shared.key; table = c.leases.inside.table.shared.table_id }) c.loop-number.number =
    c.in_ok-deal.ensures.seat ∙ ap (λ t. new_library_seat t c.loop-number.number) (sym c.leases.view_is) in
    record {
      making = subst (λ (l : List LibraryView). IsMaking (record { shape = c.leases.inside.table.shared.key; table = c.leases.inside.table.shared.table_id }) c.deal.new.engine l c.args.libraries (c.loop-number.number + 1)) (sym c.push_reserved.ensures.items)
          (making_more _ _ _ _ _ _ _ c.loop-number.invariant.making c.loop-number-test.true c.in_ok-deal.ensures.engine dealt);
      len = omega arith;
      room = omega arith;
    }

pub returns-clause-base : goal.returns-clause-base
returns-clause-base c s = subst (λ (e : EngineKnows). (engine_session e s).base ≡ length (engine_session e s).lines) (sym (ap (λ (v : EngineView). v.knows) c.loop-number.invariant.making.engine_is)) (first_base c.leases.inside.table.shared.key s)

pub returns-clause-taken : goal.returns-clause-taken
returns-clause-taken c s = subst (λ (e : EngineKnows). pending (engine_session e s) ≡ 0) (sym (ap (λ (v : EngineView). v.knows) c.loop-number.invariant.making.engine_is)) (first_pending c.leases.inside.table.shared.key s)

pub returns-clause-lines : goal.returns-clause-lines
returns-clause-lines c s journal at =
    subst (λ (e : EngineKnows). (engine_session e s).lines ≡ kept_lines journal) (sym (ap (λ (v : EngineView). v.knows) c.loop-number.invariant.making.engine_is)) (first_lines c.leases.inside.table.shared.key s c.args.journals.now journal (search rules) (search rules) at)
