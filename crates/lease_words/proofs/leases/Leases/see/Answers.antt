use Rattle.std.proofs.Common.{rules, ◌≡◌, ◌<◌, sym, subst, ◌∙◌}
use Rattle.std.specs.Prelude.{if◌then◌else◌}
use Rattle.lease_core.specs.declared.word.Word.{Word}
use Rattle.lease_words.specs.declared.view.LibraryKnows.{LibraryKnows}
use Rattle.lease_words.specs.Leases.{Each, IsNotOlder, shows_lease}
use Rattle.lease_words.specs.Views.{library_session}
use Rattle.lease_words.proofs.Tokens.{lease_within}
use Rattle.lease_words.proofs.LibraryCalls.{library_rests}
use Rattle.lease_words.proofs.LibraryAnswers.{holds_shown, holds_none, see_step, see_told, see_owes}
use Rattle.lease_words.proofs.leases.Leases.see.Goals as goal
use Rattle.lease_words.proofs.leases.Leases.see.Goals.{then-shows_lease, else-shows_lease}

pub load-n-requires : goal.load-n-requires
load-n-requires c =
    let shape : c.seat.inside.seat.me.0.shape ≡ c.self.inside.table.shared.key = search rules in
    let here = subst (λ n. c.args.s < n) c.self.invariant.sessions_are c.if-s-self.false in
    (search rules, lease_within _ _ _ _ _ _ _ _ c.self.invariant here c.lease_word.ensures, see_step _ _ _ c.args.s _ _ _ (library_rests _ _ _ _ _ c.seat.invariant shape) here c.lease_word.ensures)

pub invariant_of-seat : goal.invariant_of-seat
invariant_of-seat c =
    let shape : c.seat.inside.seat.me.0.shape ≡ c.self.inside.table.shared.key = search rules in
    let here = subst (λ n. c.args.s < n) c.self.invariant.sessions_are c.if-s-self.false in
    let shows = c.shows_lease.ensures in
    let held : c.if-shows_lease.held ≡ (if shows_lease c.seat.inside.number c.read_word-word.result then c.load-n.result else 0) = elim c.if-shows_lease.branch [
      | then-shows_lease w ↦ holds_shown _ _ _ (sym shows ∙ w.if-shows_lease.true) w.held-is
      | else-shows_lease w ↦ holds_none _ _ _ (sym shows ∙ w.if-shows_lease.false) w.held-is
    ] in
    see_owes _ _ _ _ _ _ c.seat.invariant shape 0 c.args.s _ _ here _ _ _ c.lease_word.ensures c.read_word-word.ensures.word c.index_mut.ensures.value c.load-n.ensures.2 held

pub returns-clause-later : goal.returns-clause-later
returns-clause-later c _ =
    let shape : c.seat.inside.seat.me.0.shape ≡ c.self.inside.table.shared.key = search rules in
    let told = see_told _ 0 c.args.s _ _ _ _ _ (library_rests _ _ _ _ _ c.seat.invariant shape) c.lease_word.ensures c.load-n.ensures.2 in
    subst (λ (z : LibraryKnows × Word). Each (λ seen. IsNotOlder seen z.1) (library_session z.0 c.args.s).words) (λ j. ((c.seat.view_is j).knows, sym c.read_word-word.ensures.word j)) told.1.later
