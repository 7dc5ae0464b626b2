use Rattle.std.proofs.Common.{◌+◌, ◌-◌, ◌≤◌, length, arith}
use Rattle.fix_frame.specs.Cut.{IsCutSoFar}
use Rattle.fix_frame.proofs.Cutting.{so_far-feed}
use Rattle.fix_frame.proofs.cutter.Cutter.feed.Goals as goal

pub append-requires : goal.append-requires
append-requires c =
    let s = c.self.inside in
    let fits : length c.args.piece.now ≤ s.limit + 4096 - length s.ring.bytes = rw (← c.self.view_is) at c.requires in
    omega (arith, c.self.invariant.room)

pub returns-clause-so_far : goal.returns-clause-so_far
returns-clause-so_far c =
    let s = c.self.inside in
    λ text given h.
    let h' : IsCutSoFar s.limit text given s.ring.bytes = rw (← c.self.view_is) at h in
    rw c.append.ensures (so_far-feed s.limit text given s.ring.bytes c.args.piece.now h')
