use Rattle.lease_words.proofs.Settled.{settled_taken}
use Rattle.lease_words.proofs.laws.settled_lanes_are_taken.Goals as goal

pub returns : goal.returns
returns c = settled_taken
