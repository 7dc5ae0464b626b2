use Rattle.std.proofs.Common.{◌≡◌, ◌∙◌, ap, arith, get_or, inl, inr, subst}
use Rattle.library_desk.proofs.Cursors.{same_or_other}
use Rattle.library_desk.proofs.owners.Owners.next.Goals as goal

pub loop-s-init : goal.loop-s-init
loop-s-init c = λ s from to. absurd (omega (arith, from, to))

pub returns-then-self-s-clause-first : goal.returns-then-self-s-clause-first
returns-then-self-s-clause-first c = c.loop-s.invariant

pub loop-s-preserved : goal.loop-s-preserved
loop-s-preserved c =
    let view = c.self.view_is in
    λ s from to. elim (same_or_other s c.loop-s.s) [
      | inl same ↦ λ is. c.if-self-s.false (ap (λ owners. get_or owners c.loop-s.s 0) view ∙ subst (λ i. get_or c.args.self.now i 0 ≡ c.args.library) same is)
      | inr other ↦ c.loop-s.invariant s from (omega (arith, to, other))
    ]

pub returns-clause-none : goal.returns-clause-none
returns-clause-none c = λ s from to. c.loop-s.invariant s from (let end = c.loop-s-test.false in omega (arith, to, end))
