-- The dates of the calendar, their day numbers, and their texts: `YYYY-MM-DD`, a calendar date of ISO 8601.
use Rattle.std.specs.Prelude.{ℕ, ◌≡◌, zero, suc, ◌+◌, ◌-◌, ◌%◌, nat_le, pos, unsigned_abs, List, ◌++◌, codes, if◌then◌else◌}
use Rattle.jiff_core.specs.Calendar.{days_from_civil, IsCivilDate}
use Rattle.desk_time.specs.Limits.{IsDay}
use Rattle.desk_time.specs.Digits.{two_digits, four_digits}

-- the calendar has this date, and its day, counted from 1970-01-01, is one that clocks can show
pub record IsDateOf (year month month_day day : ℕ) : Type 0 where
  pub on_calendar : IsCivilDate (pos year) month month_day
  pub number : days_from_civil (pos year) month month_day ≡ pos day
  pub in_range : IsDay day

-- a year, a month and a day of the month as `YYYY-MM-DD`
abbrev pub written_date : ℕ → ℕ → ℕ → List ℕ
written_date year month month_day = four_digits year ++ codes "-" ++ two_digits month ++ codes "-" ++ two_digits month_day

-- the text is the date of this day
pub record IsDateText (text : List ℕ) (day : ℕ) : Type 0 where
  pub year : ℕ
  pub month : ℕ
  pub month_day : ℕ
  pub is_date : IsDateOf year month month_day day
  pub written : text ≡ written_date year month month_day

-- the days from 1970-01-01 to a later date of the Gregorian calendar
abbrev pub day_number : ℕ → ℕ → ℕ → ℕ
day_number year month month_day = unsigned_abs (days_from_civil (pos year) month month_day)

-- the last of the periods 1 to n that has begun by a day, where `first` gives the first day of each
unfoldable pub last_begun : (ℕ → ℕ) → ℕ → ℕ → ℕ
last_begun first zero day = 0
last_begun first (suc n) day = if nat_le (first (suc n)) day then suc n else last_begun first n day

-- the year in which a day lies, up to the year 2100
unfoldable pub year_of : ℕ → ℕ
year_of day = last_begun (λ year. day_number year 1 1) 2100 day

-- the month of that year in which it lies, from 1 for January
unfoldable pub month_of : ℕ → ℕ
month_of day = last_begun (λ month. day_number (year_of day) month 1) 12 day

-- its place in that month, from 1
unfoldable pub day_of_month : ℕ → ℕ
day_of_month day = day + 1 - day_number (year_of day) (month_of day) 1

-- a day, counted from 1970-01-01, as `YYYY-MM-DD`
unfoldable pub date_text : ℕ → List ℕ
date_text day = written_date (year_of day) (month_of day) (day_of_month day)

-- the weekday of a day, from 0 (Monday) to 6; day 0 was a Thursday
abbrev pub weekday_of : ℕ → ℕ
weekday_of day = (day + 3) % 7
