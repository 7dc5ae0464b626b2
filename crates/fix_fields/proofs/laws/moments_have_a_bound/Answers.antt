use Rattle.std.proofs.Common.{arith}
use Rattle.fix_fields.proofs.Days.{day_number_bound}
use Rattle.fix_fields.proofs.Stamps.{IsStamp-from}
use Rattle.fix_fields.proofs.laws.moments_have_a_bound.Goals as goal

pub returns : goal.returns
returns c = λ text ms e. let stamp = IsStamp-from text ms e in omega (arith, stamp.moment, stamp.of_day, stamp.of_second, day_number_bound stamp.date stamp.real)
