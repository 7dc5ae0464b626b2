use Rattle.std.proofs.Common.{rules, arith, ◌≡◌, ◌<◌, ◌≤◌, ap, sym, subst, ◌∙◌}
use Rattle.lease_words.specs.declared.view.LibraryKnows.{LibraryKnows}
use Rattle.lease_words.specs.Leases.{held_lease, held_count}
use Rattle.lease_words.specs.Views.{library_session}
use Rattle.lease_words.specs.Answers.{IsLoss}
use Rattle.lease_words.proofs.Tokens.{lease_within}
use Rattle.lease_words.proofs.LibraryCalls.{library_rests}
use Rattle.lease_words.proofs.LibraryAnswers.{if_ok, on_ok, if_err, if_ok_none, on_ok_none, if_err_none, gives_back, view_after, release_step, row_word, gave_owes, lost_owes}
use Rattle.lease_words.proofs.leases.Leases.give_back.Goals as goal
use Rattle.lease_words.proofs.leases.Leases.give_back.Goals.{then-found-word, else-found-word}

pub write_word-given-requires-clause-owner : goal.write_word-given-requires-clause-owner
write_word-given-requires-clause-owner c =
    let most = subst (λ n. c.args.owner ≤ n) (ap (λ t. t.shape.libraries) (sym c.self.view_is)) c.requires.owner.1 in
    let few = c.self.invariant.shape.libraries in
    omega arith

pub compare_exchange-found-requires : goal.compare_exchange-found-requires
compare_exchange-found-requires c =
    let shape : c.seat.inside.seat.me.0.shape ≡ c.self.inside.table.shared.key = search rules in
    let here = subst (λ n. c.args.s < n) (ap (λ t. t.shape.sessions) (sym c.self.view_is)) c.requires.session in
    let most = subst (λ n. c.args.owner ≤ n) (ap (λ t. t.shape.libraries) (sym c.self.view_is)) c.requires.owner.1 in
    let held = subst (λ (l : LibraryKnows). 0 < held_lease (library_session l c.args.s).leases) (ap (λ t. t.knows) (sym c.seat.view_is)) c.requires.held in
    let word = row_word _ c.seat.inside.seat _ _ _ _ c.seat.invariant shape 0 c.args.s 0 0 here _ c.index.ensures in (
      search rules,
      lease_within _ _ _ _ _ _ _ _ c.self.invariant here c.lease_word.ensures,
      release_step _ _ _ c.args.s _ _ _ (library_rests _ _ _ _ _ c.seat.invariant shape) here _ c.args.owner _ _ _ c.lease_word.ensures c.seat.invariant.number_is c.requires.owner.0 most held word c.read_word-held.ensures.word c.write_word-given.ensures.number,
    )

pub invariant_of-seat : goal.invariant_of-seat
invariant_of-seat c =
    let shape : c.seat.inside.seat.me.0.shape ≡ c.self.inside.table.shared.key = search rules in
    let here = subst (λ n. c.args.s < n) (ap (λ t. t.shape.sessions) (sym c.self.view_is)) c.requires.session in
    let held = subst (λ (l : LibraryKnows). 0 < held_lease (library_session l c.args.s).leases) (ap (λ t. t.knows) (sym c.seat.view_is)) c.requires.held in
    let word = row_word _ c.seat.inside.seat _ _ _ _ c.seat.invariant shape 0 c.args.s 0 0 here _ c.index.ensures in
    elim c.if-found-word.branch [
      | then-found-word w ↦ (gave_owes c.seat.inside.seat c.compare_exchange-found.new.seat _ _ _ _ c.seat.invariant shape 0 c.args.s _ _ here c.args.owner _ _ _ _ c.lease_word.ensures c.index_mut.ensures.value word held c.read_word-held.ensures.word c.write_word-given.ensures.read c.compare_exchange-found.ensures.2 w.if-found-word.true).0
      | else-found-word w ↦ (lost_owes c.seat.inside.seat c.compare_exchange-found.new.seat _ _ _ _ c.seat.invariant shape 0 c.args.s _ _ here _ _ _ _ c.lease_word.ensures c.index_mut.ensures.value w.read_word.ensures.word c.compare_exchange-found.ensures.2 w.if-found-word.false).0
    ]

pub returns-clause-count : goal.returns-clause-count
returns-clause-count c =
    let shape : c.seat.inside.seat.me.0.shape ≡ c.self.inside.table.shared.key = search rules in
    let here = subst (λ n. c.args.s < n) (ap (λ t. t.shape.sessions) (sym c.self.view_is)) c.requires.session in
    let held = subst (λ (l : LibraryKnows). 0 < held_lease (library_session l c.args.s).leases) (ap (λ t. t.knows) (sym c.seat.view_is)) c.requires.held in
    let word = row_word _ c.seat.inside.seat _ _ _ _ c.seat.invariant shape 0 c.args.s 0 0 here _ c.index.ensures in
    elim c.if-found-word.branch [
      | then-found-word w ↦ if_ok _ _ _ w.result-is ((gave_owes c.seat.inside.seat c.compare_exchange-found.new.seat _ _ _ _ c.seat.invariant shape 0 c.args.s _ _ here c.args.owner _ _ _ _ c.lease_word.ensures c.index_mut.ensures.value word held c.read_word-held.ensures.word c.write_word-given.ensures.read c.compare_exchange-found.ensures.2 w.if-found-word.true).1 ∙ ap (λ t. held_count (library_session t.knows c.args.s).leases) c.seat.view_is)
      | else-found-word w ↦ if_ok_none _ _ _ w.result-is
    ]

pub returns-clause-released : goal.returns-clause-released
returns-clause-released c =
    let shape : c.seat.inside.seat.me.0.shape ≡ c.self.inside.table.shared.key = search rules in
    let here = subst (λ n. c.args.s < n) (ap (λ t. t.shape.sessions) (sym c.self.view_is)) c.requires.session in
    let held = subst (λ (l : LibraryKnows). 0 < held_lease (library_session l c.args.s).leases) (ap (λ t. t.knows) (sym c.seat.view_is)) c.requires.held in
    let word = row_word _ c.seat.inside.seat _ _ _ _ c.seat.invariant shape 0 c.args.s 0 0 here _ c.index.ensures in
    elim c.if-found-word.branch [
      | then-found-word w ↦ on_ok _ _ _ w.result-is (view_after c.seat.inside.seat c.compare_exchange-found.new.seat _ (gives_back c.args.s c.args.owner) _ c.compare_exchange-found.ensures.0 shape (gave_owes c.seat.inside.seat c.compare_exchange-found.new.seat _ _ _ _ c.seat.invariant shape 0 c.args.s _ _ here c.args.owner _ _ _ _ c.lease_word.ensures c.index_mut.ensures.value word held c.read_word-held.ensures.word c.write_word-given.ensures.read c.compare_exchange-found.ensures.2 w.if-found-word.true).2 c.seat.view_is)
      | else-found-word w ↦ on_ok_none _ _ _ w.result-is
    ]

pub returns-clause-lost : goal.returns-clause-lost
returns-clause-lost c =
    let shape : c.seat.inside.seat.me.0.shape ≡ c.self.inside.table.shared.key = search rules in
    let here = subst (λ n. c.args.s < n) (ap (λ t. t.shape.sessions) (sym c.self.view_is)) c.requires.session in
    elim c.if-found-word.branch [
      | then-found-word w ↦ if_err_none _ _ _ w.result-is
      | else-found-word w ↦ if_err _ _ _ w.result-is (subst (λ (l : LibraryKnows). IsLoss (library_session l c.args.s) w.read_word.result) (ap (λ t. t.knows) c.seat.view_is) (lost_owes c.seat.inside.seat c.compare_exchange-found.new.seat _ _ _ _ c.seat.invariant shape 0 c.args.s _ _ here _ _ _ _ c.lease_word.ensures c.index_mut.ensures.value w.read_word.ensures.word c.compare_exchange-found.ensures.2 w.if-found-word.false).1)
    ]
