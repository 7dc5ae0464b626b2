use Rattle.seq_gaps.proofs.LawsOfLines.{held_items}
use Rattle.seq_gaps.proofs.laws.held_items.Goals as goal

pub returns : goal.returns
returns g c = held_items
