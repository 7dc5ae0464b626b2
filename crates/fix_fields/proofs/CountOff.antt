-- Counting off years and months undoes counting days.
use Rattle.std.proofs.Common.{◌≡◌, ℕ, zero, suc, ◌+◌, ◌-◌, ◌<◌, ◌≤◌, inl, inr, refl, subst, ap, sym, ◌∙◌, arith, add-suc, add-zero, pos}
use Rattle.std.proofs.lemmas.Bool.{cases_lt, lt-ltb, le-ltb}
use Rattle.jiff_core.proofs.CalendarLemmas.{days_of_months_all}
use Rattle.fix_fields.specs.Calendar.{days_in_year, days_in_month, days_of_years, days_of_months, Date, IsDate, day_number}
use Rattle.fix_fields.specs.Stamp.{date_in_year, date_from, date_of_day}
use Rattle.fix_fields.proofs.Days.{days_of_months-same}

days_of_months-suc : (year n : ℕ) → days_of_months year (suc n) ≡ days_of_months year n + days_in_month year (suc n)
unfolding days_of_months
days_of_months-suc year n = refl

days_of_years-suc : (n : ℕ) → days_of_years (suc n) ≡ days_of_years n + days_in_year (1970 + n)
unfolding days_of_years
days_of_years-suc n = refl

days_of_months-mono : (year n more : ℕ) → days_of_months year n ≤ days_of_months year (n + more)
days_of_months-mono year n zero = omega (arith, ap (days_of_months year) (add-zero n))
days_of_months-mono year n (suc more) =
    omega (arith, ap (days_of_months year) (add-suc n more), days_of_months-suc year (n + more), days_of_months-mono year n more)

days_of_years-mono : (n more : ℕ) → days_of_years n ≤ days_of_years (n + more)
days_of_years-mono n zero = omega (arith, ap days_of_years (add-zero n))
days_of_years-mono n (suc more) =
    omega (arith, ap days_of_years (add-suc n more), days_of_years-suc (n + more), days_of_years-mono n more)

-- the twelve months of a year
twelve_months : (year : ℕ) → days_of_months year 12 ≡ days_in_year year
twelve_months year = sym (days_of_months-same year 12) ∙ days_of_months_all (pos year)

gap_back : (a b : ℕ) → a ≤ b → a + (b - a) ≡ b
gap_back a b h = omega arith

date_is : (date : Date) (year month day : ℕ) → date.year ≡ year → date.month ≡ month → date.day ≡ day → record { year = year; month = month; day = day } ≡ date
date_is date year month day e f g = rw (← e, ← f, ← g) refl

-- the days before a date of its year, the first n months among them, lead to the date
date_in_year_is : (k year n day : ℕ) (date : Date) → n + k ≡ 11 → n < date.month → date.month ≤ 12 → date.year ≡ year → 1 ≤ date.day → date.day ≤ days_in_month year date.month → day + days_of_months year n ≡ days_of_months year (date.month - 1) + (date.day - 1) → date_in_year k year (suc n) day ≡ date
unfolding date_in_year
date_in_year_is zero year n day date e below to same from last days =
    let month : date.month ≡ suc n = omega arith in
    let before : date.month - 1 ≡ n = omega arith in
    date_is date year (suc n) (day + 1) same month (omega (arith, ap (days_of_months year) before))
date_in_year_is (suc k) year n day date e below to same from last days =
    elim (cases_lt (suc n) date.month) [
      | inl later ↦
          let months : days_of_months year (suc n) ≤ days_of_months year (date.month - 1) =
          omega (arith, days_of_months-mono year (suc n) (date.month - 1 - suc n), ap (days_of_months year) (gap_back (suc n) (date.month - 1) (omega arith)))
          in
          let enough : days_in_month year (suc n) ≤ day = omega (arith, months, days_of_months-suc year n) in
          rw (le-ltb _ _ enough) (date_in_year_is k year (suc n) (day - days_in_month year (suc n)) date (omega arith) later to same from last (omega (arith, enough, days_of_months-suc year n)))
      | inr here ↦
          let month : date.month ≡ suc n = omega arith in
          let before : date.month - 1 ≡ n = omega arith in
          let day_is : date.day ≡ day + 1 = omega (arith, ap (days_of_months year) before) in
          let short : day < days_in_month year (suc n) = omega (arith, day_is, ap (days_in_month year) month) in
          rw (lt-ltb _ _ short) (date_is date year (suc n) (day + 1) same month day_is)
    ]

days_of_months-zero : (year : ℕ) → days_of_months year 0 ≡ 0
unfolding days_of_months
days_of_months-zero year = refl

-- a date's days of its own year are fewer than the year has
within_year : (date : Date) → IsDate date → days_of_months date.year (date.month - 1) + (date.day - 1) < days_in_year date.year
within_year date real =
    let month : suc (date.month - 1) ≡ date.month = omega (arith, real.from_january) in
    let through = days_of_months-suc date.year (date.month - 1) in
    let whole = ap (days_of_months date.year) month in
    let length = ap (days_in_month date.year) month in
    let rest = days_of_months-mono date.year date.month (12 - date.month) in
    let all = ap (days_of_months date.year) (gap_back date.month 12 real.to_december) in
    omega (arith, through, whole, length, rest, all, twelve_months date.year, real.to_last, real.from_first)

date_of_year : (year day : ℕ) (date : Date) → IsDate date → date.year ≡ year → day ≡ days_of_months date.year (date.month - 1) + (date.day - 1) → date_in_year 11 year 1 day ≡ date
date_of_year year day date real same days =
    date_in_year_is 11 year 0 day date refl real.from_january real.to_december same real.from_first
    (omega (arith, real.to_last, ap (λ (y : ℕ). days_in_month y date.month) same))
    (omega (arith, days, days_of_months-zero year, ap (λ (y : ℕ). days_of_months y (date.month - 1)) same))

date_from_is : (k i year day : ℕ) (date : Date) → year ≡ 1970 + i → i + k ≡ 8029 → IsDate date → year ≤ date.year → day + days_of_years i ≡ day_number date → date_from k year day ≡ date
unfolding date_from
date_from_is zero i year day date e f real below days =
    let same : date.year ≡ year = omega (arith, real.to_9999) in
    let back : date.year - 1970 ≡ i = omega arith in
    date_of_year year day date real same (omega (arith, days, ap days_of_years back))
date_from_is (suc k) i year day date e f real below days =
    elim (cases_lt year date.year) [
      | inl later ↦
          let gap : suc i + (date.year - 1970 - suc i) ≡ date.year - 1970 = gap_back (suc i) (date.year - 1970) (omega arith) in
          let years : days_of_years (suc i) ≤ days_of_years (date.year - 1970) =
          omega (arith, days_of_years-mono (suc i) (date.year - 1970 - suc i), ap days_of_years gap)
          in
          let length : days_in_year (1970 + i) ≡ days_in_year year = ap days_in_year (sym e) in
          let enough : days_in_year year ≤ day = omega (arith, days, years, length, days_of_years-suc i) in
          rw (le-ltb _ _ enough) (date_from_is k (suc i) (suc year) (day - days_in_year year) date (omega arith) (omega arith) real later (omega (arith, days, enough, length, days_of_years-suc i)))
      | inr here ↦
          let same : date.year ≡ year = omega arith in
          let back : date.year - 1970 ≡ i = omega arith in
          let rest : day ≡ days_of_months date.year (date.month - 1) + (date.day - 1) = omega (arith, days, ap days_of_years back) in
          let short : day < days_in_year year = omega (arith, rest, within_year date real, ap days_in_year same) in
          rw (lt-ltb _ _ short) (date_of_year year day date real same rest)
    ]

days_of_years-zero : days_of_years 0 ≡ 0
unfolding days_of_years
days_of_years-zero = refl

-- a date is the date of its day number
pub date_of_day-day_number : (date : Date) → IsDate date → date_of_day (day_number date) ≡ date
unfolding date_of_day
date_of_day-day_number date real =
    date_from_is 8029 0 1970 (day_number date) date refl refl real real.from_1970 (omega (arith, days_of_years-zero))

-- the years from 1970 to 9999 have so many days
pub all_years : days_of_years 8030 ≡ 2_932_897
unfolding days_of_years
all_years = refl

-- what is counted off from the first n months of a year is a date of it
pub record IsCounted (date : Date) (year days : ℕ) : Type 0 where
  pub real : IsDate date
  pub year_is : date.year ≡ year
  pub days_are : days_of_months year (date.month - 1) + (date.day - 1) ≡ days

counted_here : (year n day : ℕ) → 1970 ≤ year → year ≤ 9999 → n < 12 → day < days_in_month year (suc n) → IsCounted (record { year = year; month = suc n; day = day + 1 }) year (day + days_of_months year n)
counted_here year n day low high month short =
    record {
      real = record { from_1970 = low; to_9999 = high; from_january = omega arith; to_december = omega arith; from_first = omega arith; to_last = omega (arith, short) };
      year_is = refl;
      days_are = let back : suc n - 1 ≡ n = omega arith in omega (arith, ap (days_of_months year) back);
    }

counted_month : (k year n day : ℕ) → 1970 ≤ year → year ≤ 9999 → n + k ≡ 11 → day + days_of_months year n < days_in_year year → IsCounted (date_in_year k year (suc n) day) year (day + days_of_months year n)
unfolding date_in_year
counted_month zero year n day low high e within =
    let last : days_of_months year (suc n) ≡ days_of_months year 12 = ap (days_of_months year) (omega arith) in
    counted_here year n day low high (omega arith) (omega (arith, within, last, twelve_months year, days_of_months-suc year n))
counted_month (suc k) year n day low high e within =
    elim (cases_lt day (days_in_month year (suc n))) [
      | inl short ↦ rw (lt-ltb _ _ short) (counted_here year n day low high (omega arith) short)
      | inr enough ↦
          let same : day - days_in_month year (suc n) + days_of_months year (suc n) ≡ day + days_of_months year n = omega (arith, enough, days_of_months-suc year n) in
          rw (le-ltb _ _ enough, ← same) (counted_month k year (suc n) (day - days_in_month year (suc n)) low high (omega arith) (omega (arith, same, within)))
    ]

-- a date with its day number
pub record IsDateOf (date : Date) (day : ℕ) : Type 0 where
  pub real : IsDate date
  pub number : day_number date ≡ day

dated : (i year day : ℕ) → year ≡ 1970 + i → i < 8030 → day < days_in_year year → IsDateOf (date_in_year 11 year 1 day) (day + days_of_years i)
dated i year day e f within =
    let counted = counted_month 11 year 0 day (omega arith) (omega arith) refl (omega (arith, within, days_of_months-zero year)) in
    let date = date_in_year 11 year 1 day in
    let back : date.year - 1970 ≡ i = omega (arith, counted.year_is) in
    record {
      real = counted.real;
      number = omega (arith, ap days_of_years back, counted.days_are, days_of_months-zero year, ap (λ (y : ℕ). days_of_months y (date.month - 1)) counted.year_is);
    }

dated_from : (k i year day : ℕ) → year ≡ 1970 + i → i + k ≡ 8029 → day + days_of_years i < days_of_years 8030 → IsDateOf (date_from k year day) (day + days_of_years i)
unfolding date_from
dated_from zero i year day e f within =
    let last : days_of_years (suc i) ≡ days_of_years 8030 = ap days_of_years (omega arith) in
    dated i year day e (omega arith) (omega (arith, last, within, days_of_years-suc i, ap days_in_year e))
dated_from (suc k) i year day e f within =
    elim (cases_lt day (days_in_year year)) [
      | inl short ↦ rw (lt-ltb _ _ short) (dated i year day e (omega arith) short)
      | inr enough ↦
          let same : day - days_in_year year + days_of_years (suc i) ≡ day + days_of_years i = omega (arith, enough, days_of_years-suc i, ap days_in_year e) in
          rw (le-ltb _ _ enough, ← same) (dated_from k (suc i) (suc year) (day - days_in_year year) (omega arith) (omega arith) (omega (arith, same, within)))
    ]

-- the date that is counted off has the day number
pub day_number-date_of_day : (day : ℕ) → day ≤ 2_932_896 → IsDateOf (date_of_day day) day
unfolding date_of_day
day_number-date_of_day day low =
    let same : day + days_of_years 0 ≡ day = omega (arith, days_of_years-zero) in
    subst (λ (n : ℕ). IsDateOf (date_from 8029 1970 day) n) same (dated_from 8029 0 1970 day refl refl (omega (arith, same, all_years)))
