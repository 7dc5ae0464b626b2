-- what is kept beside the entries is what they come to, and there is room
use Rattle.std.proofs.Common.{ap, sym, subst, arith}
use Rattle.lease_core.specs.State.{state_of}
use Rattle.lease_core.specs.Runs.{IsNext}
use Rattle.lease_core.specs.Kept.{Kept}
use Rattle.lease_core.proofs.Kept.{kept_push, some_held, counted_next, few_arrived, few_sent}
use Rattle.lease_core.proofs.journal.Journal.push.Goals as goal

pub record_holding-requires-clause-some : goal.record_holding-requires-clause-some
record_holding-requires-clause-some c = let some = some_held _ _ _ _ c.self.invariant in omega (arith, some)

pub record_holding-requires-clause-counts : goal.record_holding-requires-clause-counts
record_holding-requires-clause-counts c =
    let next = subst (λ (k : Kept). IsNext k.leases (state_of k.entries) c.args.entry) (sym c.self.view_is) c.requires.next in
    counted_next _ _ _ _ c.args.entry c.self.invariant next

pub record_holding-requires-clause-inbound : goal.record_holding-requires-clause-inbound
record_holding-requires-clause-inbound c =
    let few = few_arrived _ _ _ _ c.self.invariant in
    let room = ap (λ (k : Kept). k.spare) c.self.view_is in omega (arith, few, room)

pub add-requires-clause-inbound : goal.add-requires-clause-inbound
add-requires-clause-inbound c =
    let few = few_arrived _ _ _ _ c.self.invariant in
    let room = ap (λ (k : Kept). k.spare) c.self.view_is in omega (arith, few, room)

pub add-requires-clause-sent : goal.add-requires-clause-sent
add-requires-clause-sent c =
    let few = few_sent _ _ _ _ c.self.invariant in
    let room = ap (λ (k : Kept). k.spare) c.self.view_is in omega (arith, few, room)

pub invariant_of-self : goal.invariant_of-self
invariant_of-self c =
    let next = subst (λ (k : Kept). IsNext k.leases (state_of k.entries) c.args.entry) (sym c.self.view_is) c.requires.next in
    rw (c.push.ensures.items, c.unwrap.ensures, c.record_holding.ensures.items, c.add.ensures) (kept_push _ _ _ _ c.args.entry c.self.invariant next)
