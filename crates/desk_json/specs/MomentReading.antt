-- The minute and the day that a text names.
use Rattle.std.specs.Prelude.{ℕ, ◌+◌, ◌-◌, ◌*◌, Bool, ◌&&◌, nat_le, List, slice_index, bytes_eq, Option, Some, None, if◌then◌else◌}
use Rattle.desk_time.specs.Limits.{first_minute, end_of_minutes, minutes_a_day, first_day, last_day}
use Rattle.desk_time.specs.Dates.{day_number, date_text}
use Rattle.desk_time.specs.Moments.{moment_text}

-- the number of the two digits from a place on
abbrev pub two_at : List ℕ → ℕ → ℕ
two_at text place = (slice_index text place - 48) * 10 + (slice_index text (place + 1) - 48)

-- the number of the four digits from a place on
abbrev pub four_at : List ℕ → ℕ → ℕ
four_at text place = two_at text place * 100 + two_at text (place + 2)

-- the minute that the digits of `YYYY-MM-DDTHH:MMZ` give, whatever stands between them
unfoldable pub minute_named : List ℕ → ℕ
minute_named text = day_number (four_at text 0) (two_at text 5) (two_at text 8) * minutes_a_day + (two_at text 11 * 60 + two_at text 14)

-- a minute of the horizon or its end, and its text
abbrev pub is_text_of : List ℕ → ℕ → Bool
is_text_of text minute = nat_le first_minute minute && nat_le minute end_of_minutes && bytes_eq (moment_text minute) text

-- the minute of the horizon, or its end, whose text it is, or none
unfoldable pub moment_of : List ℕ → Option ℕ
moment_of text = if is_text_of text (minute_named text) then Some (minute_named text) else None

-- the day that the digits of `YYYY-MM-DD` give, whatever stands between them
unfoldable pub day_named : List ℕ → ℕ
day_named text = day_number (four_at text 0) (two_at text 5) (two_at text 8)

-- a day that clocks can show, and its text
abbrev pub is_text_of_day : List ℕ → ℕ → Bool
is_text_of_day text day = nat_le first_day day && nat_le day last_day && bytes_eq (date_text day) text

-- the day that clocks can show whose text it is, or none
unfoldable pub day_of : List ℕ → Option ℕ
day_of text = if is_text_of_day text (day_named text) then Some (day_named text) else None
