use Rattle.script_text.proofs.FirstFaults.{long-zero}
use Rattle.script_text.proofs.laws.long_texts_are_line_zero.Goals as goal

pub returns : goal.returns
returns c = long-zero
