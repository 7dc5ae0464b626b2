use Rattle.fix_fields.proofs.Faults.{fields_of-fault, IsFirstFault-from}
use Rattle.fix_fields.proofs.laws.faults_as_first.Goals as goal

pub returns : goal.returns
returns c = λ body fault. (IsFirstFault-from body fault, fields_of-fault body fault)
