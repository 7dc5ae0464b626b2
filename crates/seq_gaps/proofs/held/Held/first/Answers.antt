-- the front of the numbers is the least of them
use Rattle.std.proofs.Common.{◌∙◌}
use Rattle.seq_gaps.proofs.Told.{front_is, first_told}
use Rattle.seq_gaps.proofs.held.Held.first.Goals as goal

pub returns-clause-some : goal.returns-clause-some
returns-clause-some g c =
    let found = c.copied.ensures ∙ front_is c.self.inside.numbers.items c.front.result c.front.ensures.item in
    rw (found, ← c.self.view_is) (first_told c.self.inside.numbers.items c.self.inside.items.items c.self.invariant.0).0

pub returns-clause-none : goal.returns-clause-none
returns-clause-none g c =
    let found = c.copied.ensures ∙ front_is c.self.inside.numbers.items c.front.result c.front.ensures.item in
    rw (found, ← c.self.view_is) (first_told c.self.inside.numbers.items c.self.inside.items.items c.self.invariant.0).1
