use Rattle.fix_fields.proofs.Numbers.{number_of-decimal}
use Rattle.fix_fields.proofs.laws.numbers_read_again.Goals as goal

pub returns : goal.returns
returns c = λ n low. number_of-decimal n low
