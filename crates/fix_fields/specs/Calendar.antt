-- The Gregorian calendar from 1970 to 9999, counted day by day.
use Rattle.std.specs.Prelude.{ℕ, zero, suc, ◌+◌, ◌-◌, ◌%◌, ◌≤◌, Bool, not, ◌&&◌, ◌||◌, ◌==◌, nat_le, if◌then◌else◌, Option, Some, None}

-- every fourth year, but of the centuries only every fourth
abbrev pub is_leap_year : ℕ → Bool
is_leap_year year = (year % 4 == 0) && (not (year % 100 == 0) || (year % 400 == 0))

abbrev pub days_in_year : ℕ → ℕ
days_in_year year = if is_leap_year year then 366 else 365

-- thirty days have September, April, June and November
abbrev pub days_in_month : ℕ → ℕ → ℕ
days_in_month year month =
    if month == 2 then (if is_leap_year year then 29 else 28)
    else (if (month == 4) || (month == 6) || (month == 9) || (month == 11) then 30 else 31)

-- the days of the first n years from 1970 on
unfoldable pub days_of_years : ℕ → ℕ
days_of_years zero = 0
days_of_years (suc n) = days_of_years n + days_in_year (1970 + n)

-- the days of the first n months of a year
unfoldable pub days_of_months : ℕ → ℕ → ℕ
days_of_months year zero = 0
days_of_months year (suc n) = days_of_months year n + days_in_month year (suc n)

pub record Date : Type 0 where
  pub year : ℕ
  pub month : ℕ
  pub day : ℕ

-- the calendar has this date, and its year is from 1970 to 9999
pub record IsDate (date : Date) : Type 0 where
  pub from_1970 : 1970 ≤ date.year
  pub to_9999 : date.year ≤ 9999
  pub from_january : 1 ≤ date.month
  pub to_december : date.month ≤ 12
  pub from_first : 1 ≤ date.day
  pub to_last : date.day ≤ days_in_month date.year date.month

-- the days from 1970-01-01 to a date: those of the whole years, of the year's whole months, and of
-- the month before it
abbrev pub day_number : Date → ℕ
day_number date =
    days_of_years (date.year - 1970) + days_of_months date.year (date.month - 1) + (date.day - 1)

-- whether the calendar has the date
abbrev pub is_date : Date → Bool
is_date date =
    nat_le 1970 date.year && nat_le date.year 9999 && nat_le 1 date.month && nat_le date.month 12
    && nat_le 1 date.day && nat_le date.day (days_in_month date.year date.month)

-- the same of a date that the calendar has, and else nothing
abbrev pub day_of_date : Date → Option ℕ
day_of_date date = if is_date date then Some (day_number date) else None
