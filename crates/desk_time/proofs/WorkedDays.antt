-- Days and shifts at which the definitions are computed.
use Rattle.std.proofs.Common.{◌≡◌, refl, true, false, [], ◌∷◌, pos, negsuc, map}
use Rattle.desk_time.specs.Limits.{first_minute, first_day, last_day}
use Rattle.desk_time.specs.Dates.{weekday_of}
use Rattle.desk_time.specs.Clocks.{local_time}
use Rattle.desk_time.specs.Zones.{are_shifts}

-- 1970-01-01 was a Thursday
weekday_of_first : weekday_of 0 ≡ 3
weekday_of_first = refl

-- 2025-01-06 is a Monday
weekday_of_monday : weekday_of 20094 ≡ 0
weekday_of_monday = refl

-- an hour ahead, and from 2025-03-30T01:00Z on a day behind
are_a_zone : are_shifts ((first_minute, pos 60) ∷ (29054940, negsuc 1439) ∷ []) ≡ true
are_a_zone = refl

-- a shift that is not above the one before it
are_no_zone : are_shifts ((first_minute, pos 60) ∷ (first_minute, pos 0) ∷ []) ≡ false
are_no_zone = refl

-- a shift holds from its own minute on
around_the_shift : map (local_time ((first_minute, pos 60) ∷ (29054940, pos 120) ∷ [])) (29054939 ∷ 29054940 ∷ []) ≡ record { day = 20177; minute = 119 } ∷ record { day = 20177; minute = 180 } ∷ []
around_the_shift = refl

-- a day behind UTC, the horizon begins on the first day that clocks can show
a_day_behind : local_time ((first_minute, negsuc 1439) ∷ []) first_minute ≡ record { day = first_day; minute = 0 }
a_day_behind = refl

-- a day ahead, it ends on the last
a_day_ahead : local_time ((first_minute, pos 1440) ∷ []) 68374079 ≡ record { day = last_day; minute = 1439 }
a_day_ahead = refl
