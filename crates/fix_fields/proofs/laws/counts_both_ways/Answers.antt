use Rattle.fix_fields.proofs.CountOff.{date_of_day-day_number, day_number-date_of_day}
use Rattle.fix_fields.proofs.laws.counts_both_ways.Goals as goal

pub returns : goal.returns
returns c = (
  λ date real. date_of_day-day_number date real,
  λ day low. let dated = day_number-date_of_day day low in (dated.real, dated.number),
)
