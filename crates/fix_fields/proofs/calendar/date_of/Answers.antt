use Rattle.std.proofs.Common.{◌≡◌, arith, ap, sym, ◌∙◌, pos, ◌+ℤ◌, to_z, w64}
use Rattle.std.proofs.lemmas.Int.{to_z_pos}
use Rattle.jiff_core.specs.Date.{epoch_day}
use Rattle.jiff_core.proofs.SignedLemmas.{signed_arith}
use Rattle.fix_fields.specs.Stamp.{date_of_day}
use Rattle.fix_fields.proofs.CountOff.{date_of_day-day_number}
use Rattle.fix_fields.proofs.Days.{epoch_day-first, counted_from_first, cast_back}
use Rattle.fix_fields.proofs.calendar.date_of.Goals as goal

pub unwrap-date-requires : goal.unwrap-date-requires
unwrap-date-requires c =
    let start : epoch_day c.to_plain-first.result ≡ pos 0 =
    rw c.to_plain-first.ensures (epoch_day-first c.date.result c.date.ensures)
    in
    let passed : to_z w64 c.args.day ≡ pos c.args.day = to_z_pos w64 c.args.day (omega arith) in
    let day : epoch_day c.to_plain-first.result +ℤ to_z w64 c.args.day ≡ pos c.args.day =
    omega (arith, signed_arith, start, passed)
    in
    c.checked_add.ensures.succeeds.1 (omega (arith, signed_arith, day), omega (arith, signed_arith, day))

pub overflow_cast-result : goal.overflow_cast-result
overflow_cast-result c =
    let moved = rw (c.unwrap-date.ensures, c.to_plain-first.ensures) at c.checked_add.ensures.value in
    let f = counted_from_first c.date.result c.unwrap-date.result c.args.day c.requires c.date.ensures moved in
    rw (cast_back _ _ f.year_is f.real.to_9999) (tt, omega (arith, f.real.to_9999))

pub returns : goal.returns
returns c =
    let moved = rw (c.unwrap-date.ensures, c.to_plain-first.ensures) at c.checked_add.ensures.value in
    let f = counted_from_first c.date.result c.unwrap-date.result c.args.day c.requires c.date.ensures moved in
    rw (cast_back _ _ f.year_is f.real.to_9999) (ap date_of_day (sym f.number) ∙ date_of_day-day_number _ f.real)
