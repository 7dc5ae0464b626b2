use Rattle.std.proofs.Common.{refl, ◌∙◌, arith}
use Rattle.fix_fields.proofs.Days.{known, number_back, day_number_bound, is_date_true}
use Rattle.fix_fields.proofs.calendar.day_of.Goals as goal

pub overflow_cast-result : goal.overflow_cast-result
overflow_cast-result c =
    let k = known c.in-Ok.date c.args.year c.args.month c.args.day (omega arith) (omega arith) (omega arith) (omega arith) (c.in-Ok.ensures.value) in
    let small = day_number_bound _ k.real in
    rw (number_back _ _ (c.to_unix_epoch_day.ensures.value ∙ rw c.to_plain.ensures k.number) small) (tt, omega (arith, small))

pub returns-clause-value : goal.returns-clause-value
returns-clause-value c =
    let k = known c.in-Ok.date c.args.year c.args.month c.args.day (omega arith) (omega arith) (omega arith) (omega arith) (c.in-Ok.ensures.value) in
    let small = day_number_bound _ k.real in
    rw (number_back _ _ (c.to_unix_epoch_day.ensures.value ∙ rw c.to_plain.ensures k.number) small, is_date_true _ k.real) refl

pub returns-clause-bound : goal.returns-clause-bound
returns-clause-bound c =
    let k = known c.in-Ok.date c.args.year c.args.month c.args.day (omega arith) (omega arith) (omega arith) (omega arith) (c.in-Ok.ensures.value) in
    let small = day_number_bound _ k.real in
    rw (number_back _ _ (c.to_unix_epoch_day.ensures.value ∙ rw c.to_plain.ensures k.number) small) small
