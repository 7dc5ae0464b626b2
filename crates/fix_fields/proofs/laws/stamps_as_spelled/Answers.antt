use Rattle.fix_fields.proofs.Stamps.{moment_of-from, IsStamp-from}
use Rattle.fix_fields.proofs.laws.stamps_as_spelled.Goals as goal

pub returns : goal.returns
returns c = λ text ms. (IsStamp-from text ms, moment_of-from text ms)
