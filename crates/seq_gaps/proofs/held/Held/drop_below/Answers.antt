-- the least number goes while it is below `to`; then none below `to` is held
use Rattle.std.proofs.Common.{nat_le, ◌∙◌, ap, arith}
use Rattle.std.specs.FinMap as map
use Rattle.std.proofs.lemmas.Bool.{leb-false, lt-leb}
use Rattle.std.specs.Ordering.{nat_cmp}
use Rattle.seq_gaps.proofs.Maps.{retain_keys-all, retain_keys-remove, len-remove_held}
use Rattle.seq_gaps.proofs.held.Held.drop_below.Goals as goal

pub returns-then-first-to : goal.returns-then-first-to
returns-then-first-to g c =
    retain_keys-all c.loop-first.self (nat_le c.args.to) (λ q no. let below = leb-false c.args.to q no in c.in-Some.ensures.some.least q (omega arith))
    ∙ c.loop-first.invariant

pub loop-first-smaller-else-first-to : goal.loop-first-smaller-else-first-to
loop-first-smaller-else-first-to g c =
    rw (c.take_first.ensures.rest) (len-remove_held c.loop-first.self c.in-Some.first c.in-Some.ensures.some.is_held)

pub loop-first-preserved-else-first-to : goal.loop-first-preserved-else-first-to
loop-first-preserved-else-first-to g c =
    rw (c.take_first.ensures.rest) (retain_keys-remove c.loop-first.self (nat_le c.args.to) c.in-Some.first (lt-leb c.args.to c.in-Some.first (omega arith)) ∙ c.loop-first.invariant)

pub returns : goal.returns
returns g c =
    retain_keys-all c.loop-first.self (nat_le c.args.to) (λ q no. ap (λ (m : map.FinMap nat_cmp g.row.T.Denot). map.get m q) c.in_default.ensures.none ∙ map.get-empty nat_cmp q)
    ∙ c.loop-first.invariant
