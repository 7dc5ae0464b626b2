use Rattle.seq_gaps.proofs.LawsOfLines.{held_counts}
use Rattle.seq_gaps.proofs.laws.held_counts.Goals as goal

pub returns : goal.returns
returns g c = held_counts
