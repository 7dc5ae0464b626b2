use Rattle.std.proofs.Common.{◌≤◌, subst}
use Rattle.lease_core.specs.State.{state_of, lease_of}
use Rattle.lease_core.specs.Kept.{Kept}
use Rattle.lease_core.proofs.Kept.{lawful}
use Rattle.lease_core.proofs.journal.Journal.limit.Goals as goal

pub returns-clause-few : goal.returns-clause-few
returns-clause-few c = subst (λ (k : Kept). lease_of (state_of k.entries) ≤ k.leases) c.self.view_is (lawful _ _ c.self.invariant.run).few
