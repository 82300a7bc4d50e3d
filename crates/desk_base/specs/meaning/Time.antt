-- Windows, and the local time of a minute.
use Rattle.std.specs.Prelude.{ℕ, ◌+◌, ◌-◌, ◌/◌, ◌%◌, ◌<◌, ◌≤◌, ℤ, pos, negsuc, ◌+ℤ◌, Bool, nat_le, nat_lt, min, max, ◌&&◌, List, [], ◌∷◌, Option, Some, None, if◌then◌else◌}
use Rattle.std.specs.List.{range_with_len}
use Rattle.std.specs.Option.{option_map_or, option_or}
use Rattle.desk_base.specs.rows.Types.{Window, Leaf}
use Rattle.desk_base.specs.rules.Limits.{first_minute, end_of_minutes, minutes_a_day}

-- m is a minute of the horizon
abbrev pub IsMinute : ℕ → Type 0
IsMinute m = (first_minute ≤ m) × (m < end_of_minutes)

-- a window holds the minutes from its start on and below its end
abbrev pub covers : ℕ → ℕ → ℕ → Bool
covers from to m = nat_le from m && nat_lt m to

-- the minutes of a window, rising
abbrev pub minutes_of : Window → List ℕ
minutes_of w = range_with_len w.from (w.to - w.from)

-- what of a window lies in the horizon
abbrev pub within_horizon : Window → Window
within_horizon w = record { from = max first_minute w.from; to = min w.to end_of_minutes }

-- v lies inside w: it begins no earlier and ends no later
abbrev pub is_inside : Window → Window → Bool
is_inside v w = nat_le w.from v.from && nat_le v.to w.to

-- the time of a leaf of a group that starts at s: it begins the leaf's offset later
abbrev pub leaf_time : Leaf → ℕ → Window
leaf_time leaf s = record { from = s + leaf.offset; to = s + leaf.offset + leaf.duration }

-- a day, counted from 1970-01-01, and a minute of it
pub record LocalTime : Type 0 where
  pub day : ℕ
  pub minute : ℕ

-- minutes since 1970-01-01T00:00; a negative number of them, to which no shift of sound tables leads, counts as 0
abbrev pub minute_of : ℤ → ℕ
minute_of (pos n) = n
minute_of (negsuc n) = 0

-- the last shift of the list whose minute is at most m
abbrev pub last_begun : List (ℕ × ℤ) → ℕ → Option (ℕ × ℤ)
last_begun [] m = None
last_begun (s ∷ ss) m = option_or (last_begun ss m) (if nat_le s.0 m then Some s else None)

-- by how many minutes clocks are ahead of UTC at m
abbrev pub offset_at : List (ℕ × ℤ) → ℕ → ℤ
offset_at shifts m = option_map_or (λ s. s.1) (last_begun shifts m) (pos 0)

-- what clocks show at m, in minutes since they showed 1970-01-01T00:00
abbrev pub clock_minute : List (ℕ × ℤ) → ℕ → ℕ
clock_minute shifts m = minute_of (pos m +ℤ offset_at shifts m)

-- the day and the minute of it that clocks show
abbrev pub local_time : List (ℕ × ℤ) → ℕ → LocalTime
local_time shifts m = record { day = clock_minute shifts m / minutes_a_day; minute = clock_minute shifts m % minutes_a_day }

-- the weekday of a day, from 0 (Monday) to 6; day 0 was a Thursday
abbrev pub weekday_of : ℕ → ℕ
weekday_of day = (day + 3) % 7
