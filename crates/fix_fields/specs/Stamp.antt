-- UTC timestamps.
use Rattle.std.specs.Prelude.{◌≡◌, ◌<◌, ◌⊎◌, ℕ, zero, suc, ◌+◌, ◌-◌, ◌*◌, ◌/◌, ◌%◌, ◌^◌, ◌&&◌, ◌==◌, nat_lt, nat_le, if◌then◌else◌, List, [], ◌∷◌, ◌++◌, length, slice_index, take, drop, Option, Some, None}
use Rattle.fix_fields.specs.Calendar.{Date, IsDate, day_number, days_in_year, days_in_month, day_of_date}
use Rattle.fix_fields.specs.Number.{number_of}
use Rattle.fix_fields.specs.Options.{◌>>=◌}
use Rattle.fix_fields.specs.declared.stamp.TheConstants.{DAY_MS, DAY_SECONDS}

-- the last digits of a number, so many of them; 48 is the code of 0
abbrev pub last_digits : ℕ → ℕ → List ℕ
last_digits zero n = []
last_digits (suc width) n = (48 + n / 10 ^ width % 10) ∷ last_digits width n

-- a day of a year: count off whole months from this one on
unfoldable pub date_in_year : ℕ → ℕ → ℕ → ℕ → Date
date_in_year zero year month day = record { year = year; month = month; day = day + 1 }
date_in_year (suc months) year month day =
    if nat_lt day (days_in_month year month)
    then record { year = year; month = month; day = day + 1 }
    else date_in_year months year (suc month) (day - days_in_month year month)

-- so many days after a year's first: count off whole years from this one on, and then whole months.
-- The number that counts down bounds how many years there are.
unfoldable pub date_from : ℕ → ℕ → ℕ → Date
date_from zero year day = date_in_year 11 year 1 day
date_from (suc years) year day =
    if nat_lt day (days_in_year year)
    then date_in_year 11 year 1 day
    else date_from years (suc year) (day - days_in_year year)

-- the date so many days after 1970-01-01
unfoldable pub date_of_day : ℕ → Date
date_of_day day = date_from 8029 1970 day

-- YYYYMMDD
abbrev pub date_text : Date → List ℕ
date_text date = last_digits 4 date.year ++ last_digits 2 date.month ++ last_digits 2 date.day

-- HH:MM:SS, so many seconds after midnight; 58 is the code of `:`
abbrev pub time_text : ℕ → List ℕ
time_text second =
    last_digits 2 (second / 3_600) ++ (58 ∷ last_digits 2 (second / 60 % 60)) ++ (58 ∷ last_digits 2 (second % 60))

-- .sss, with 46 for the point
abbrev pub fraction_text : ℕ → List ℕ
fraction_text millisecond = 46 ∷ last_digits 3 millisecond

-- the text of a moment, YYYYMMDD-HH:MM:SS.sss, with 45 for the dash
abbrev pub stamp_of : ℕ → List ℕ
stamp_of ms =
    date_text (date_of_day (ms / DAY_MS)) ++ (45 ∷ time_text (ms / 1_000 % DAY_SECONDS)) ++ fraction_text (ms % 1_000)

-- the day number of a text YYYYMMDD
unfoldable pub day_in : List ℕ → Option ℕ
day_in text = do
  year ← number_of (take 4 text)
  month ← number_of (take 2 (drop 4 text))
  day ← number_of (drop 6 text)
  day_of_date (record { year = year; month = month; day = day })

-- the seconds after midnight of a clock's hour, minute and second
abbrev pub second_of_day : ℕ → ℕ → ℕ → Option ℕ
second_of_day hour minute second =
    if nat_le hour 23 && nat_le minute 59 && nat_le second 59
    then Some (hour * 3_600 + minute * 60 + second) else None

-- the seconds after midnight of a text HH:MM:SS
unfoldable pub second_in : List ℕ → Option ℕ
second_in text =
    if (slice_index text 2 == 58) && (slice_index text 5 == 58) then (do
      hour ← number_of (take 2 text)
      minute ← number_of (take 2 (drop 3 text))
      second ← number_of (drop 6 text)
      second_of_day hour minute second)
    else None

-- the milliseconds of what stands behind the seconds: nothing, or .sss
unfoldable pub fraction_in : List ℕ → Option ℕ
fraction_in [] = Some 0
fraction_in (byte ∷ digits) =
    if (byte == 46) && (length digits == 3) then number_of digits else None

-- the moment of a text, if it is a timestamp
unfoldable pub moment_of : List ℕ → Option ℕ
moment_of text =
    if nat_le 17 (length text) && (slice_index text 8 == 45) then (do
      day ← day_in (take 8 text)
      second ← second_in (take 8 (drop 9 text))
      millisecond ← fraction_in (drop 17 text)
      Some ((day * DAY_SECONDS + second) * 1_000 + millisecond))
    else None

-- The text is a timestamp of the moment: a real date from 1970 to 9999, a dash and a time of day,
-- with a fraction of three digits or without one.
pub record IsStamp (text : List ℕ) (ms : ℕ) : Type 0 where
  pub date : Date
  pub second : ℕ
  pub millisecond : ℕ
  pub real : IsDate date
  pub of_day : second < DAY_SECONDS
  pub of_second : millisecond < 1_000
  pub spelled : (text ≡ date_text date ++ (45 ∷ time_text second) ++ fraction_text millisecond)
      ⊎ ((text ≡ date_text date ++ (45 ∷ time_text second)) × (millisecond ≡ 0))
  pub moment : ms ≡ (day_number date * DAY_SECONDS + second) * 1_000 + millisecond
