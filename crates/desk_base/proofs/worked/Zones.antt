-- Local times: a zone of two shifts, and both ends of the horizon.
use Rattle.std.proofs.Common.{◌≡◌, refl, [], ◌∷◌, ◌++◌, map, Some, pos, negsuc}
use Rattle.std.specs.Prelude.{codes}
use Rattle.desk_base.specs.rows.Types.{Tables, GroupRow}
use Rattle.desk_base.specs.rules.Limits.{first_minute, end_of_minutes, first_day, last_day}
use Rattle.desk_base.specs.meaning.Time.{local_time, weekday_of}
use Rattle.desk_base.specs.meaning.Capacity.{capacity, calendar_capacity}
use Rattle.desk_base.specs.meaning.Eligible.{first_broken_rule}
use Rattle.desk_base.specs.meaning.Load.{room, own_load, plain_load, load}
use Rattle.desk_base.specs.meaning.Picks.{keeps_same}
use Rattle.desk_base.specs.rows.Trial.{trial, trial_group, plain_leaf, work_on_monday}
use Rattle.desk_base.proofs.worked.Parts.{monday, plain_resource, row, rows_at}

-- 2025-01-06 is the day 20,094, a Monday
day_of_monday : (local_time ((first_minute, pos 0) ∷ []) (monday 8 0)) ≡ record { day = 20094; minute = 480 }
day_of_monday = refl

weekday_of_monday : weekday_of 20094 ≡ 0
weekday_of_monday = refl

-- 1970-01-01 was a Thursday
weekday_of_first : weekday_of 0 ≡ 3
weekday_of_first = refl

-- one hour ahead of UTC, and two from 2025-03-30T01:00Z on
abbrev summer : Tables
summer = record trial {
  zones = trial.zones ++ record { id = 2; name = codes "X"; shifts = (first_minute, pos 60) ∷ (29054940, pos 120) ∷ [] } ∷ [];
  calendars = trial.calendars ++ record { id = 3; name = codes "X"; zone = 2 } ∷ [];
  works = trial.works ++ work_on_monday 3 480 ∷ [];
  resources = trial.resources ++ plain_resource 4 3 ∷ [];
}

-- 2025-03-31 at 05:59Z and 06:00Z, which is 08:00 there
opens_at_eight : map (capacity summer 4) (29056679 ∷ 29056680 ∷ []) ≡ 0 ∷ 1 ∷ []
unfolding capacity calendar_capacity
opens_at_eight = refl

-- on the Monday before, 08:00 was 07:00Z
opened_at_eight : map (capacity summer 4) (29046659 ∷ 29046660 ∷ []) ≡ 0 ∷ 1 ∷ []
unfolding capacity calendar_capacity
opened_at_eight = refl

-- the shift begins with its own minute
last_of_winter : map (local_time ((first_minute, pos 60) ∷ (29054940, pos 120) ∷ [])) (29054939 ∷ 29054940 ∷ []) ≡ record { day = 20177; minute = 119 } ∷ record { day = 20177; minute = 180 } ∷ []
last_of_winter = refl

-- calendar 3 works on Thursdays from 23:00 to midnight
abbrev thursdays : Tables
thursdays = record trial {
  calendars = trial.calendars ++ record { id = 3; name = codes "X"; zone = 1 } ∷ [];
  works = trial.works ++ record { calendar = 3; weekday = 3; from = 1380; to = 1440; capacity = 1 } ∷ [];
  resources = trial.resources ++ plain_resource 4 3 ∷ [];
}

-- 2099-12-31 is a Thursday: its last hour, to the last minute of the horizon
last_hour : map (capacity thursdays 4) (68374019 ∷ 68374020 ∷ 68374079 ∷ []) ≡ 0 ∷ 1 ∷ 1 ∷ []
unfolding capacity calendar_capacity
last_hour = refl

-- the last hour of the horizon
abbrev last_group : GroupRow
last_group = record trial_group { id = 2; from = 68374020; to = end_of_minutes; leaves = record plain_leaf { required = 4 ∷ [] } ∷ [] }

last_row : rows_at thursdays last_group (68374020 ∷ []) ≡ row 68374020 (Some 4 ∷ []) ∷ []
unfolding own_load plain_load load room capacity calendar_capacity first_broken_rule keeps_same
last_row = refl

-- a day behind UTC, the horizon begins on the first day that clocks can show
a_day_behind : local_time ((first_minute, negsuc 1439) ∷ []) first_minute ≡ record { day = first_day; minute = 0 }
a_day_behind = refl

-- a day ahead, it ends on the last
a_day_ahead : local_time ((first_minute, pos 1440) ∷ []) 68374079 ≡ record { day = last_day; minute = 1439 }
a_day_ahead = refl
