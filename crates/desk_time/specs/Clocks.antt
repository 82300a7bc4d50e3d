-- What the clocks of a zone show.
use Rattle.std.specs.Prelude.{ℕ, ◌/◌, ◌%◌, ℤ, pos, negsuc, ◌+ℤ◌, nat_le, List, [], ◌∷◌, Option, Some, None, if◌then◌else◌}
use Rattle.std.specs.Option.{option_map_or, option_or}
use Rattle.desk_time.specs.declared.clocks.Local.{Local}
use Rattle.desk_time.specs.Limits.{minutes_a_day}

-- minutes since 1970-01-01T00:00; a negative number of them, to which no shift of a zone leads in the horizon, counts as 0
abbrev pub minute_of : ℤ → ℕ
minute_of (pos n) = n
minute_of (negsuc n) = 0

-- the last shift of the list whose minute is at most m
abbrev pub last_shift : List (ℕ × ℤ) → ℕ → Option (ℕ × ℤ)
last_shift [] m = None
last_shift (s ∷ ss) m = option_or (last_shift ss m) (if nat_le s.0 m then Some s else None)

-- by how many minutes clocks are ahead of UTC at m
abbrev pub offset_at : List (ℕ × ℤ) → ℕ → ℤ
offset_at shifts m = option_map_or (λ s. s.1) (last_shift shifts m) (pos 0)

-- what clocks show at m, in minutes since they showed 1970-01-01T00:00
abbrev pub clock_minute : List (ℕ × ℤ) → ℕ → ℕ
clock_minute shifts m = minute_of (pos m +ℤ offset_at shifts m)

-- the day and the minute of it that clocks show
abbrev pub local_time : List (ℕ × ℤ) → ℕ → Local
local_time shifts m = record { day = clock_minute shifts m / minutes_a_day; minute = clock_minute shifts m % minutes_a_day }
