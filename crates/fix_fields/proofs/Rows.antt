-- Worked rows: the definitions computed on bodies and on dates.
use Rattle.std.specs.Prelude.{◌≡◌, [], ◌∷◌, Some, None, Ok, Err, refl}
use Rattle.fix_fields.specs.Calendar.{days_of_years, days_of_months}
use Rattle.fix_fields.specs.Fit.{unfit_at}
use Rattle.fix_fields.specs.Number.{number_of, tag_of}
use Rattle.fix_fields.specs.Pairs.{data_tag_of, pair_of}
use Rattle.fix_fields.specs.Reading.{fields_of, fields_from, field_at, value_at}
use Rattle.fix_fields.specs.Stamp.{date_from, date_in_year, date_of_day, moment_of, day_in, second_in, fraction_in}
use Rattle.fix_fields.specs.declared.error.FieldError.TheVariants.{BadDataLength}

-- field 96 has 17 bytes, SOH and = among them
with_data : fields_of (51 ∷ 53 ∷ 61 ∷ 66 ∷ 1 ∷ 57 ∷ 53 ∷ 61 ∷ 49 ∷ 55 ∷ 1 ∷ 57 ∷ 54 ∷ 61 ∷ 97 ∷ 1 ∷ 56 ∷ 61 ∷ 70 ∷ 73 ∷ 88 ∷ 46 ∷ 52 ∷ 46 ∷ 52 ∷ 1 ∷ 57 ∷ 61 ∷ 53 ∷ 1 ∷ 98 ∷ 1 ∷ []) ≡ Ok (
    record { tag = 35; value = 66 ∷ [] } ∷ record { tag = 95; value = 49 ∷ 55 ∷ [] } ∷ record { tag = 96; value = 97 ∷ 1 ∷ 56 ∷ 61 ∷ 70 ∷ 73 ∷ 88 ∷ 46 ∷ 52 ∷ 46 ∷ 52 ∷ 1 ∷ 57 ∷ 61 ∷ 53 ∷ 1 ∷ 98 ∷ [] } ∷ []
    )
unfolding fields_of fields_from field_at value_at number_of tag_of data_tag_of pair_of
with_data = refl

-- a length of 16 is wrong, at the place of field 96
with_bad_length : fields_of (51 ∷ 53 ∷ 61 ∷ 66 ∷ 1 ∷ 57 ∷ 53 ∷ 61 ∷ 49 ∷ 54 ∷ 1 ∷ 57 ∷ 54 ∷ 61 ∷ 97 ∷ 1 ∷ 56 ∷ 61 ∷ 70 ∷ 73 ∷ 88 ∷ 46 ∷ 52 ∷ 46 ∷ 52 ∷ 1 ∷ 57 ∷ 61 ∷ 53 ∷ 1 ∷ 98 ∷ 1 ∷ []) ≡ Err (BadDataLength 11)
unfolding fields_of fields_from field_at value_at number_of tag_of data_tag_of pair_of
with_bad_length = refl

-- the second field has no =
without_equals : unfit_at (51 ∷ 53 ∷ 61 ∷ 68 ∷ 1 ∷ 49 ∷ 49 ∷ 1 ∷ []) ≡ Some 5
unfolding fields_of fields_from field_at value_at number_of tag_of data_tag_of pair_of
without_equals = refl

-- 29 February of 2000 is a day, and of 2026 and 2100 it isn't
leap_day : moment_of (50 ∷ 48 ∷ 48 ∷ 48 ∷ 48 ∷ 50 ∷ 50 ∷ 57 ∷ 45 ∷ 50 ∷ 51 ∷ 58 ∷ 53 ∷ 57 ∷ 58 ∷ 53 ∷ 57 ∷ 46 ∷ 57 ∷ 57 ∷ 57 ∷ []) ≡ Some 951_868_799_999
unfolding moment_of day_in second_in fraction_in number_of days_of_years days_of_months
leap_day = refl

no_leap_day : moment_of (50 ∷ 48 ∷ 50 ∷ 54 ∷ 48 ∷ 50 ∷ 50 ∷ 57 ∷ 45 ∷ 48 ∷ 48 ∷ 58 ∷ 48 ∷ 48 ∷ 58 ∷ 48 ∷ 48 ∷ []) ≡ None
unfolding moment_of day_in second_in fraction_in number_of days_of_years days_of_months
no_leap_day = refl

no_leap_century : moment_of (50 ∷ 49 ∷ 48 ∷ 48 ∷ 48 ∷ 50 ∷ 50 ∷ 57 ∷ 45 ∷ 48 ∷ 48 ∷ 58 ∷ 48 ∷ 48 ∷ 58 ∷ 48 ∷ 48 ∷ []) ≡ None
unfolding moment_of day_in second_in fraction_in number_of days_of_years days_of_months
no_leap_century = refl

-- 19,782 days after 1970-01-01 it was 29 February 2024
counted_off : date_of_day 19_782 ≡ record { year = 2024; month = 2; day = 29 }
unfolding date_of_day date_from date_in_year
counted_off = refl
