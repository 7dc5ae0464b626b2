use Rattle.std.proofs.Common.{◌≡◌, ℕ, List, ap, sym, subst, ◌∙◌}
use Rattle.fix_frame.specs.Cut.{IsCutSoFar}
use Rattle.fix_frame.specs.Cutting.{Cutting}
use Rattle.connection_core.proofs.connection.Connection.take_in.Goals as goal

pub returns-clause-given : goal.returns-clause-given
returns-clause-given c = λ pieces h.
    let s = c.self.inside in
    let before = rw (← c.self.view_is) at h in
    let bounded = c.self.invariant.0 in
    let so_far : IsCutSoFar s.cutter.limit s.taken.items pieces s.cutter.held =
    subst (λ (limit : ℕ). IsCutSoFar limit s.taken.items pieces s.cutter.held) (sym bounded) before.so_far in
    let fed = c.feed.ensures.so_far s.taken.items pieces so_far in
    let limit : c.feed.new.self.limit ≡ 65536 = ap (λ (cutter : Cutting). cutter.limit) c.feed.ensures.held ∙ bounded in
    let whole = subst (λ (text : List ℕ). IsCutSoFar c.feed.new.self.limit text pieces c.feed.new.self.held) (sym c.in_ok-extend_from_slice.ensures.items) fed in
    record { so_far = subst (λ (l : ℕ). IsCutSoFar l c.extend_from_slice.new.self.items pieces c.feed.new.self.held) limit whole; counted = before.counted }
