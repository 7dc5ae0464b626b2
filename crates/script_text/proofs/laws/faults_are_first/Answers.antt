use Rattle.script_text.proofs.FirstFaults.{faults-first}
use Rattle.script_text.proofs.laws.faults_are_first.Goals as goal

pub returns : goal.returns
returns c = faults-first
