use Rattle.std.proofs.Common.{subst}
use Rattle.lease_core.specs.State.{state_of}
use Rattle.lease_core.specs.Kept.{Kept}
use Rattle.lease_core.specs.Holdings.{AreAdjoining}
use Rattle.lease_core.proofs.Kept.{lawful}
use Rattle.lease_core.proofs.journal.Journal.holdings.Goals as goal

pub returns-clause-adjoining : goal.returns-clause-adjoining
returns-clause-adjoining c =
    let all = lawful _ _ c.self.invariant.run in
    rw (c.as_slice.ensures.value, c.self.invariant.holdings_are) (subst (λ (k : Kept). AreAdjoining (state_of c.self.inside.entries.items).holdings (state_of k.entries).inbound) c.self.view_is all.adjoining)
