use Rattle.std.proofs.Common.{◌≤◌, subst, sym}
use Rattle.seq_gaps.specs.Line.{Line}
use Rattle.seq_gaps.proofs.Lines.{line_filled}
use Rattle.std.specs.Prelude.{nat_le}
use Rattle.seq_gaps.proofs.Maps.{len-retain_keys}
use Rattle.seq_gaps.proofs.expect.Expect.fill.Goals as goal

pub invariant_of-self : goal.invariant_of-self
invariant_of-self g c =
    let forward = subst (λ (line : Line g.row.T.Denot). line.expected ≤ c.args.to) (sym c.self.view_is) c.requires.forward in
    rw c.drop_below.ensures (line_filled _ c.args.to c.self.invariant forward c.requires.to_end)

pub returns-clause-count : goal.returns-clause-count
returns-clause-count g c = rw (← c.self.view_is, c.drop_below.ensures) (len-retain_keys c.self.inside.held (nat_le c.args.to))
