use Rattle.script_text.proofs.FirstFaults.{scripts-read}
use Rattle.script_text.proofs.laws.scripts_are_read.Goals as goal

pub returns : goal.returns
returns c = scripts-read
