use Rattle.std.proofs.Common.{subst, sym, ◌∙◌, ◌<◌}
use Rattle.seq_gaps.specs.Line.{Line}
use Rattle.seq_gaps.proofs.Lines.{line_held}
use Rattle.seq_gaps.proofs.Places.{was_free}
use Rattle.seq_gaps.proofs.LawsOfLines.{insert_count}
use Rattle.seq_gaps.proofs.expect.Expect.offer_early.Goals as goal

pub invariant_of-self : goal.invariant_of-self
invariant_of-self g c =
    let early = subst (λ (line : Line g.row.T.Denot). line.expected < c.args.n) (sym c.self.view_is) c.requires.early in
    let free = was_free c.self.inside.held c.args.n c.args.item (sym c.hold-place.ensures.place ∙ c.in-Held.is) in
    rw (c.in-Held.ensures.held, c.max-self-inside.ensures) (line_held _ c.args.n c.args.item c.self.invariant early c.requires.number.to_largest free.0 free.1)

pub returns-in-Held-clause-count : goal.returns-in-Held-clause-count
returns-in-Held-clause-count g c = rw (← c.self.view_is, c.in-Held.ensures.held, c.in-Held.is) (insert_count c.self.inside.held c.args.n c.args.item)
