-- The text of a moment: `YYYY-MM-DDTHH:MMZ`, a calendar date and a time of day of ISO 8601, in UTC.
use Rattle.std.specs.Prelude.{ℕ, ◌≡◌, ◌+◌, ◌*◌, ◌/◌, ◌%◌, ◌<◌, List, ◌++◌, codes}
use Rattle.desk_time.specs.Limits.{minutes_a_day, IsMoment}
use Rattle.desk_time.specs.Digits.{two_digits}
use Rattle.desk_time.specs.Dates.{IsDateText, date_text}

-- an hour and a minute of it as `HH:MM`
abbrev pub written_time : ℕ → ℕ → List ℕ
written_time hour minute = two_digits hour ++ codes ":" ++ two_digits minute

-- the text is a time of day, from 00:00 to 23:59, and this minute of the day
pub record IsClockText (text : List ℕ) (minute_of_day : ℕ) : Type 0 where
  pub hour : ℕ
  pub minute : ℕ
  pub hour_in_day : hour < 24
  pub minute_in_hour : minute < 60
  pub written : text ≡ written_time hour minute
  pub number : minute_of_day ≡ hour * 60 + minute

-- the text is a date, `T`, a time of day and `Z`, and this minute since 1970-01-01T00:00Z, in the horizon or its end
pub record IsMomentText (text : List ℕ) (moment : ℕ) : Type 0 where
  pub date : List ℕ
  pub clock : List ℕ
  pub day : ℕ
  pub minute : ℕ
  pub is_date : IsDateText date day
  pub is_clock : IsClockText clock minute
  pub written : text ≡ date ++ codes "T" ++ clock ++ codes "Z"
  pub number : moment ≡ day * minutes_a_day + minute
  pub in_horizon : IsMoment moment

-- a minute of a day as `HH:MM`
unfoldable pub clock_text : ℕ → List ℕ
clock_text minute = written_time (minute / 60) (minute % 60)

-- a minute, counted from 1970-01-01T00:00Z, as `YYYY-MM-DDTHH:MMZ`
unfoldable pub moment_text : ℕ → List ℕ
moment_text minute = date_text (minute / minutes_a_day) ++ codes "T" ++ clock_text (minute % minutes_a_day) ++ codes "Z"
