-- whether the least number held is the expected one decides
use Rattle.std.proofs.Common.{ap, sym, ◌∙◌, is_some}
use Rattle.seq_gaps.proofs.Lines.{line_taken}
use Rattle.seq_gaps.proofs.Maps.{remove-absent, len-remove_held}
use Rattle.seq_gaps.proofs.Places.{after_taking-none}
use Rattle.seq_gaps.proofs.expect.Expect.take_ready.Goals as goal

pub invariant_of-self : goal.invariant_of-self
invariant_of-self g c =
    let none = sym c.take_first.ensures.taken ∙ c.in_err-item.was in
    rw (c.take_first.ensures.rest, ← remove-absent c.self.inside.held c.self.inside.expected none) c.self.invariant

pub returns-in_err-item-clause-line : goal.returns-in_err-item-clause-line
returns-in_err-item-clause-line g c =
    let none = sym c.take_first.ensures.taken ∙ c.in_err-item.was in
    rw (c.take_first.ensures.rest, ← remove-absent c.self.inside.held c.self.inside.expected none, ← c.self.view_is) (sym (after_taking-none _ none))

pub invariant_of-self-2 : goal.invariant_of-self-2
invariant_of-self-2 g c =
    rw c.take_first.ensures.rest (line_taken _ c.self.invariant (ap is_some (sym c.take_first.ensures.taken ∙ c.in_ok-item.was)))

pub returns-clause-count : goal.returns-clause-count
returns-clause-count g c =
    rw (← c.self.view_is, c.take_first.ensures.rest) (λ _. len-remove_held c.self.inside.held c.self.inside.expected (ap is_some (sym c.take_first.ensures.taken ∙ c.in_ok-item.was)))
