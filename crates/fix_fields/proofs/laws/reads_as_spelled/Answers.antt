use Rattle.fix_fields.proofs.WholeBody.{fields_of-from, IsFields-from}
use Rattle.fix_fields.proofs.laws.reads_as_spelled.Goals as goal

pub returns : goal.returns
returns c = λ body fields. (IsFields-from body fields, fields_of-from body fields)
