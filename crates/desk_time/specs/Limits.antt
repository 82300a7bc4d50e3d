-- The horizon, the days that clocks can show in it, and the number of shifts.
use Rattle.std.specs.Prelude.{ℕ, ◌<◌, ◌≤◌}

-- 2000-01-01T00:00Z, in minutes since 1970-01-01T00:00Z
abbrev pub first_minute : ℕ
first_minute = 15778080

-- 2100-01-01T00:00Z, where the horizon ends
abbrev pub end_of_minutes : ℕ
end_of_minutes = 68374080

-- minutes of a day, and the greatest offset of a zone
abbrev pub minutes_a_day : ℕ
minutes_a_day = 1440

-- the first day that clocks can show, 1999-12-31, in days since 1970-01-01
abbrev pub first_day : ℕ
first_day = 10956

-- the last such day, 2100-01-01
abbrev pub last_day : ℕ
last_day = 47482

-- shifts of a zone
abbrev pub shift_limit : ℕ
shift_limit = 256

-- m is a minute of the horizon or its end
abbrev pub IsMoment : ℕ → Type 0
IsMoment m = (first_minute ≤ m) × (m ≤ end_of_minutes)

-- m is a minute of the horizon
abbrev pub IsMinute : ℕ → Type 0
IsMinute m = (first_minute ≤ m) × (m < end_of_minutes)

-- d is a day that clocks can show
abbrev pub IsDay : ℕ → Type 0
IsDay d = (first_day ≤ d) × (d ≤ last_day)
