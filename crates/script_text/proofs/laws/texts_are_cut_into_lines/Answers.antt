use Rattle.script_text.proofs.WholeLines.{lines-whole_text}
use Rattle.script_text.proofs.laws.texts_are_cut_into_lines.Goals as goal

pub returns : goal.returns
returns c = lines-whole_text
