-- The kit's calendar counts days from the year -10000 on, and this crate's from 1970 on.
use Rattle.std.proofs.Common.{◌≡◌, ℕ, zero, suc, ◌+◌, ◌-◌, ◌≤◌, inl, inr, true, ◌&&◌, nat_le, refl, subst, ap, sym, ◌∙◌, arith, add-zero, add-suc, lit≤, ℤ, pos, negsuc, to_z, of_z, w8, w16, w32, w64, ◌+ℤ◌, ◌-ℤ◌, ◌<ℤ◌, unsigned_abs}
use Rattle.jiff_core.specs.Calendar as jiff
use Rattle.jiff_core.specs.Date.{epoch_day, IsYmd}
use Rattle.jiff_core.specs.declared.civil.date.Date as plain
use Rattle.std.proofs.lemmas.Bool.{cases_lt, and_parts, leb-true}
use Rattle.std.proofs.lemmas.Int.{to_z_pos}
use Rattle.std.proofs.lemmas.Bool.Decides.{nat_tests}
use Rattle.jiff_core.proofs.CalendarLemmas.{day_count-epoch, day_count_bounds, day_count-lt_year, days_from_civil-day_count}
use Rattle.jiff_core.proofs.SignedLemmas.{signed_arith}
use Rattle.fix_fields.specs.Calendar.{days_in_year, days_in_month, days_of_years, days_of_months, Date, IsDate, day_number, is_date}

pub days_of_months-same : (year n : ℕ) → jiff.days_of_months (pos year) n ≡ days_of_months year n
unfolding jiff.days_of_months days_of_months
days_of_months-same year zero = refl
days_of_months-same year (suc n) = ap (λ d. d + days_in_month year (suc n)) (days_of_months-same year n)

-- n years after 1970 the kit's count has grown by this crate's
years_after : (start n : ℕ) → 11970 ≡ start → jiff.days_of_years (start + n) ≡ jiff.days_of_years start + days_of_years n
unfolding jiff.days_of_years days_of_years
years_after start zero e = ap jiff.days_of_years (add-zero start) ∙ sym (add-zero (jiff.days_of_years start))
years_after start (suc n) e =
    let back : pos (start + n) -ℤ pos 10000 ≡ pos (1970 + n) = omega (arith, signed_arith) in
    let year : jiff.days_in_year (pos (start + n) -ℤ pos 10000) ≡ days_in_year (1970 + n) = ap jiff.days_in_year back in
    ap jiff.days_of_years (add-suc start n) ∙ omega (arith, years_after start n e, year)

-- the kit's count of a date is this crate's, and that of 1970-01-01
day_count_after : (year month day start : ℕ) → 11970 ≡ start → 1970 ≤ year → 1 ≤ day → jiff.day_count (pos year) month day ≡ jiff.days_of_years start + day_number (record { year = year; month = month; day = day })
unfolding jiff.day_count
day_count_after year month day start e late first =
    let back : unsigned_abs (pos year +ℤ pos 10000) ≡ start + (year - 1970) = omega arith in
    omega (arith, ap jiff.days_of_years back, years_after start (year - 1970) e, days_of_months-same year (month - 1))

minus_is : (a b s n : ℕ) → a ≡ s + n → b ≡ s → pos a -ℤ pos b ≡ pos n
minus_is a b s n e f = omega (arith, signed_arith)

-- no day lies before 1970-01-01
day_number-first : day_number (record { year = 1970; month = 1; day = 1 }) ≡ 0
unfolding days_of_years days_of_months
day_number-first = refl

-- so the kit's day number is this crate's
pub day_number_is : (year month day : ℕ) → 1970 ≤ year → 1 ≤ day → jiff.days_from_civil (pos year) month day ≡ pos (day_number (record { year = year; month = month; day = day }))
unfolding jiff.days_from_civil
day_number_is year month day late first =
    let epoch = day_count_after 1970 1 1 11970 refl (lit≤ tt) (lit≤ tt) in
    minus_is _ _ (jiff.days_of_years 11970) _ (day_count_after year month day 11970 refl late first) (omega (arith, epoch, day_number-first))

-- what a year, a month and a day of the kit's with the day number n are here
pub record Counted (year : ℤ) (month day n : ℕ) : Type 0 where
  pub since : ℕ
  pub year_is : year ≡ pos since
  pub real : IsDate (record { year = since; month = month; day = day })
  pub number : day_number (record { year = since; month = month; day = day }) ≡ n

not_before : (year : ℤ) (month day n : ℕ) → jiff.IsCivilDate year month day → jiff.days_from_civil year month day ≡ pos n → year <ℤ pos 1970 → ⊥
not_before year month day n civil e early =
    omega (arith, signed_arith, day_count-lt_year year month day (pos 1970) 1 1 civil (lit≤ tt) early, day_count-epoch, days_from_civil-day_count year month day, e)

pub counted : (year : ℤ) (month day n : ℕ) → jiff.IsCivilDate year month day → jiff.days_from_civil year month day ≡ pos n → Counted year month day n
counted (pos year) month day n civil e =
    let late : 1970 ≤ year =
    elim (cases_lt year 1970) [
      | inl early ↦ absurd (not_before (pos year) month day n civil e (omega (arith, signed_arith)))
      | inr late ↦ late
    ]
    in
    let same : pos (day_number (record { year = year; month = month; day = day })) ≡ pos n =
    sym (day_number_is year month day late civil.2.0) ∙ e
    in
    record {
      since = year;
      year_is = refl;
      real = record { from_1970 = late; to_9999 = omega (arith, signed_arith); from_january = civil.1.0; to_december = civil.1.1; from_first = civil.2.0; to_last = civil.2.1 };
      number = cc same;
    }
counted (negsuc before) month day n civil e = absurd (not_before (negsuc before) month day n civil e (omega (arith, signed_arith)))

pub is_date_true : (date : Date) → IsDate date → is_date date ≡ true
is_date_true date real = grind (arith, nat_tests)

pub is_date_from : (date : Date) → is_date date ≡ true → IsDate date
is_date_from date e =
    let sixth = and_parts (nat_le 1970 date.year && nat_le date.year 9999 && nat_le 1 date.month && nat_le date.month 12 && nat_le 1 date.day) (nat_le date.day (days_in_month date.year date.month)) e in
    let fifth = and_parts (nat_le 1970 date.year && nat_le date.year 9999 && nat_le 1 date.month && nat_le date.month 12) (nat_le 1 date.day) sixth.0 in
    let fourth = and_parts (nat_le 1970 date.year && nat_le date.year 9999 && nat_le 1 date.month) (nat_le date.month 12) fifth.0 in
    let third = and_parts (nat_le 1970 date.year && nat_le date.year 9999) (nat_le 1 date.month) fourth.0 in
    let second = and_parts (nat_le 1970 date.year) (nat_le date.year 9999) third.0 in
    record {
      from_1970 = leb-true _ _ second.0;
      to_9999 = leb-true _ _ second.1;
      from_january = leb-true _ _ third.1;
      to_december = leb-true _ _ fourth.1;
      from_first = leb-true _ _ fifth.1;
      to_last = leb-true _ _ sixth.1;
    }

pub civil_of : (date : Date) → IsDate date → jiff.IsCivilDate (pos date.year) date.month date.day
civil_of date real = ((omega (arith, signed_arith), omega (arith, signed_arith)), (real.from_january, real.to_december), (real.from_first, real.to_last))

pub day_number_bound : (date : Date) → IsDate date → day_number date ≤ 2_932_896
day_number_bound date real =
    omega (arith, signed_arith, day_number_is date.year date.month date.day real.from_1970 real.from_first, days_from_civil-day_count (pos date.year) date.month date.day, day_count_bounds (pos date.year) date.month date.day (civil_of date real))

-- the kit's number of 1970-01-01
pub epoch_day-first : (first : plain.Date) → IsYmd (pos 1970) (pos 1) (pos 1) first → epoch_day first ≡ pos 0
epoch_day-first first is =
    let month : first.month ≡ 1 = cc in
    let day : first.day ≡ 1 = cc in
    rw (is.0, month, day) (day_number_is 1970 1 1 (lit≤ tt) (lit≤ tt) ∙ ap pos day_number-first)

-- the date that many days after it
pub counted_from_first : (first date : plain.Date) (n : ℕ) → n ≤ 2_932_896 → IsYmd (pos 1970) (pos 1) (pos 1) first → epoch_day date ≡ epoch_day first +ℤ to_z w64 n → Counted date.year date.month date.day n
counted_from_first first date n small is moved =
    let days : to_z w64 n ≡ pos n = to_z_pos w64 n (omega arith) in
    counted date.year date.month date.day n (date.year_in, date.month_in, date.day_in) (omega (arith, signed_arith, moved, epoch_day-first first is, days))

-- a year that was cast to its 16 bits and back is as it was
pub cast_back : (year : ℤ) (since : ℕ) → year ≡ pos since → since ≤ 9999 → to_z w16 (of_z w16 year) ≡ pos since
cast_back year since e low = rw e (to_z_pos w16 since (omega arith))

-- a date of the kit's with these parts is real, and its number is this crate's
pub record Known (date : plain.Date) (year month day : ℕ) : Type 0 where
  pub real : IsDate (record { year = year; month = month; day = day })
  pub number : epoch_day date ≡ pos (day_number (record { year = year; month = month; day = day }))

civil_moved : (y y2 : ℤ) (m m2 d d2 : ℕ) → y ≡ y2 → m ≡ m2 → d ≡ d2 → jiff.IsCivilDate y m d → jiff.IsCivilDate y2 m2 d2
civil_moved y y2 m m2 d d2 e f g civil =
    subst (λ (x : ℤ). jiff.IsCivilDate x m2 d2) e (subst (λ (x : ℕ). jiff.IsCivilDate y x d2) f (subst (λ (x : ℕ). jiff.IsCivilDate y m x) g civil))

pub known : (date : plain.Date) (year month day : ℕ) → 1970 ≤ year → year ≤ 9999 → month ≤ 12 → day ≤ 31 → IsYmd (to_z w16 year) (to_z w8 month) (to_z w8 day) date → Known date year month day
known date year month day late y m d is =
    let year_is : date.year ≡ pos year = is.0 ∙ to_z_pos w16 year (omega arith) in
    let month_pos : pos date.month ≡ pos month = is.1 ∙ to_z_pos w8 month (omega arith) in
    let day_pos : pos date.day ≡ pos day = is.2 ∙ to_z_pos w8 day (omega arith) in
    let month_is : date.month ≡ month = cc in
    let day_is : date.day ≡ day = cc in
    let civil = civil_moved _ _ _ _ _ _ year_is month_is day_is (date.year_in, date.month_in, date.day_in) in
    record {
      real = record { from_1970 = late; to_9999 = y; from_january = civil.1.0; to_december = civil.1.1; from_first = civil.2.0; to_last = civil.2.1 };
      number = rw (year_is, month_is, day_is) (day_number_is year month day late civil.2.0);
    }

-- a day number that was cast to its 32 bits and back is as it was
pub number_back : (z : ℤ) (n : ℕ) → z ≡ pos n → n ≤ 2_932_896 → to_z w32 (of_z w32 z) ≡ pos n
number_back z n e low = rw e (to_z_pos w32 n (omega arith))
