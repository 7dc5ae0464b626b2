use Rattle.std.proofs.Common.{sym, ◌∙◌, ap}
use Rattle.std.specs.FinMap as map
use Rattle.seq_gaps.proofs.Maps.{remove-absent}
use Rattle.seq_gaps.proofs.Told.{not_first, is_first, rest_told, popped_is}
use Rattle.seq_gaps.proofs.held.Held.take_first.Goals as goal

pub returns-then-ne-clause-taken : goal.returns-then-ne-clause-taken
returns-then-ne-clause-taken g c = sym (not_first c.args.self.now c.args.n c.first.result c.first.ensures.some c.first.ensures.none c.requires (sym c.ne.ensures ∙ c.if-ne.true))

pub returns-then-ne-clause-rest : goal.returns-then-ne-clause-rest
returns-then-ne-clause-rest g c = remove-absent c.args.self.now c.args.n (not_first c.args.self.now c.args.n c.first.result c.first.ensures.some c.first.ensures.none c.requires (sym c.ne.ensures ∙ c.if-ne.true))

pub returns-clause-taken : goal.returns-clause-taken
returns-clause-taken g c =
    let inside = c.self.inside in
    let first = is_first c.args.self.now c.args.n c.first.result c.first.ensures.some (sym c.ne.ensures ∙ c.if-ne.false) in
    popped_is inside.items.items c.pop_front-2.result _ c.pop_front-2.ensures.items c.pop_front-2.ensures.rest
    ∙ (rest_told inside.numbers.items inside.items.items c.args.n c.self.invariant.0 (rw c.self.view_is first)).2 ∙ ap (λ m. map.get m c.args.n) c.self.view_is

pub returns-clause-rest : goal.returns-clause-rest
returns-clause-rest g c =
    let inside = c.self.inside in
    let first = is_first c.args.self.now c.args.n c.first.result c.first.ensures.some (sym c.ne.ensures ∙ c.if-ne.false) in
    rw (c.pop_front.ensures.rest, c.pop_front-2.ensures.rest) ((rest_told inside.numbers.items inside.items.items c.args.n c.self.invariant.0 (rw c.self.view_is first)).1 ∙ ap (λ m. map.remove m c.args.n) c.self.view_is)
