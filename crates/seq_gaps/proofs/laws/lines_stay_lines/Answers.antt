use Rattle.seq_gaps.proofs.LawsOfLines.{lines_stay_lines}
use Rattle.seq_gaps.proofs.laws.lines_stay_lines.Goals as goal

pub returns : goal.returns
returns g c = lines_stay_lines
