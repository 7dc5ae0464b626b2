use Rattle.lease_core.proofs.Settled.{first_settled}
use Rattle.lease_core.proofs.registry.Registry.new.Goals as goal

pub invariant_of-result : goal.invariant_of-result
invariant_of-result c = rw c.in_ok-new.ensures.entries first_settled
