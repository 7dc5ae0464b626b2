use Rattle.seq_gaps.proofs.LawsOfLines.{expected_numbers}
use Rattle.seq_gaps.proofs.laws.expected_numbers.Goals as goal

pub returns : goal.returns
returns g c = expected_numbers
