-- the number is the expected one and isn't held
use Rattle.std.proofs.Common.{◌≡◌, is_some, ap, sym, ◌∙◌, inl, inr, refl, arith}
use Rattle.std.proofs.lemmas.Bool.{false≢true}
use Rattle.std.specs.FinMap.{get}
use Rattle.seq_gaps.proofs.Lines.{line_counted}
use Rattle.seq_gaps.proofs.Told.{not_expected}
use Rattle.seq_gaps.proofs.Places.{offered-now, after_offer-now}
use Rattle.seq_gaps.proofs.expect.Expect.offer.Goals as goal

pub invariant_of-self : goal.invariant_of-self
invariant_of-self g c =
    let none = not_expected c.self.inside.held c.self.inside.expected c.args.n c.first.result c.first.ensures.some c.first.ensures.none c.self.invariant.none_below (omega arith) (sym c.eq.ensures ∙ c.if-eq.false) in
    let same : c.args.n ≡ c.self.inside.expected = omega arith in
    line_counted _ c.self.invariant (omega (arith, c.requires.to_largest)) (ap (get c.self.inside.held) (sym same) ∙ none)

pub returns-clause-answer : goal.returns-clause-answer
returns-clause-answer g c =
    let none = not_expected c.self.inside.held c.self.inside.expected c.args.n c.first.result c.first.ensures.some c.first.ensures.none c.self.invariant.none_below (omega arith) (sym c.eq.ensures ∙ c.if-eq.false) in
    rw (← c.self.view_is) (sym (offered-now _ c.args.n c.args.item (omega arith) none))

pub returns-clause-line : goal.returns-clause-line
returns-clause-line g c =
    let none = not_expected c.self.inside.held c.self.inside.expected c.args.n c.first.result c.first.ensures.some c.first.ensures.none c.self.invariant.none_below (omega arith) (sym c.eq.ensures ∙ c.if-eq.false) in
    rw (← c.self.view_is) (sym (after_offer-now _ c.args.n c.args.item (omega arith) none))

pub returns-clause-now : goal.returns-clause-now
returns-clause-now g c =
    let none = not_expected c.self.inside.held c.self.inside.expected c.args.n c.first.result c.first.ensures.some c.first.ensures.none c.self.invariant.none_below (omega arith) (sym c.eq.ensures ∙ c.if-eq.false) in
    rw (← c.self.view_is) (λ _. (omega arith, ap is_some none), λ _. refl)

pub returns-clause-known : goal.returns-clause-known
returns-clause-known g c =
    let none = not_expected c.self.inside.held c.self.inside.expected c.args.n c.first.result c.first.ensures.some c.first.ensures.none c.self.invariant.none_below (omega arith) (sym c.eq.ensures ∙ c.if-eq.false) in
    rw (← c.self.view_is)
    (λ e. cc, elim [ inl below ↦ absurd (omega arith) | inr held ↦ absurd (false≢true (sym (ap is_some none) ∙ held)) ])
