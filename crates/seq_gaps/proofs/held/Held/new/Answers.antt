-- two empty lists are the empty map
use Rattle.seq_gaps.proofs.Maps.{held_in-nil}
use Rattle.seq_gaps.proofs.held.Held.new.Goals as goal

pub returns : goal.returns
returns g c = rw (c.in_ok-numbers.ensures.items) held_in-nil
