-- what a clearing leaves, with the number changed
use Rattle.std.proofs.Common.{ap, ◌∙◌}
use Rattle.seq_gaps.specs.Line.{Line}
use Rattle.seq_gaps.proofs.Lines.{line_opening}
use Rattle.seq_gaps.proofs.expect.Expect.restart.Goals as goal

pub invariant_of-self : goal.invariant_of-self
invariant_of-self g c =
    let held = ap (λ (line : Line g.row.T.Denot). line.held) (c.self.view_is ∙ c.clear.ensures.line) in
    let horizon = ap (λ (line : Line g.row.T.Denot). line.horizon) (c.self.view_is ∙ c.clear.ensures.line) in
    rw (held, horizon) line_opening
