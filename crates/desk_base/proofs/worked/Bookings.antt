-- Beside a standing booking: what touches it fits, what meets it does not, and a group's own bookings do not count.
use Rattle.std.proofs.Common.{◌≡◌, refl, [], ◌∷◌, map, Some, None}
use Rattle.desk_base.specs.rows.Types.{Tables, GroupRow}
use Rattle.desk_base.specs.meaning.Capacity.{capacity, calendar_capacity}
use Rattle.desk_base.specs.meaning.Eligible.{first_broken_rule}
use Rattle.desk_base.specs.meaning.Load.{weight, room, own_load, plain_load, load, ask_of, shown_at}
use Rattle.desk_base.specs.meaning.Picks.{keeps_same}
use Rattle.desk_base.specs.search.Listing.{other_asks, asks_for}
use Rattle.desk_base.specs.rows.Trial.{trial, trial_group}
use Rattle.desk_base.proofs.worked.Parts.{monday, row, rows_at}

-- the group Visit is booked on Ann from 08:00 to 09:00
abbrev booked : Tables
booked = record trial { bookings = record { id = 1; group = 1; leaf = 0; resource = 1; from = monday 8 0; to = monday 9 0; effort = 1 } ∷ [] }

-- another such group, each half hour
abbrev half_hours : GroupRow
half_hours = record trial_group { id = 2; step = 30 }

-- Ann is free again at 09:00
beside_the_booking : rows_at booked half_hours (monday 8 0 ∷ monday 8 30 ∷ monday 9 0 ∷ [])
    ≡ row (monday 8 0) (Some 2 ∷ []) ∷ row (monday 8 30) (Some 2 ∷ []) ∷ row (monday 9 0) (Some 1 ∷ []) ∷ row (monday 9 0) (Some 2 ∷ []) ∷ []
unfolding own_load plain_load load room capacity calendar_capacity first_broken_rule keeps_same
beside_the_booking = refl

-- to move a booked group is to search as if it were not booked
moved_group : rows_at booked trial_group (monday 8 0 ∷ []) ≡ row (monday 8 0) (Some 1 ∷ []) ∷ row (monday 8 0) (Some 2 ∷ []) ∷ []
unfolding own_load plain_load load room capacity calendar_capacity first_broken_rule keeps_same
moved_group = refl

-- at 08:30 one stands, one is asked for, and there is room for one
standing_at_half_past : weight booked (other_asks booked half_hours) 1 (monday 8 30) ≡ 1
unfolding own_load plain_load load
standing_at_half_past = refl

asked_at_half_past : weight booked (asks_for half_hours (monday 8 30) (Some 1 ∷ [])) 1 (monday 8 30) ≡ 1
unfolding own_load plain_load load
asked_at_half_past = refl

room_at_half_past : room booked 1 (monday 8 30) ≡ Some 1
unfolding room capacity calendar_capacity
room_at_half_past = refl

standing_is_shown : shown_at booked booked.bookings 1 (monday 8 30) ≡ Some 1
unfolding own_load plain_load load
standing_is_shown = refl

-- at 09:00 nothing stands, so that what is in the way there is a gap
nothing_is_shown : shown_at booked booked.bookings 1 (monday 9 0) ≡ None
unfolding own_load plain_load load
nothing_is_shown = refl

-- a time off from 08:30 to 09:00 takes the room of what stands
abbrev with_off : Tables
with_off = record booked { offs = record { resource = 1; from = monday 8 30; to = monday 9 0 } ∷ [] }

room_in_time_off : map (room with_off 1) (monday 8 29 ∷ monday 8 30 ∷ []) ≡ Some 1 ∷ Some 0 ∷ []
unfolding room capacity calendar_capacity
room_in_time_off = refl

standing_in_time_off : weight with_off (map ask_of with_off.bookings) 1 (monday 8 30) ≡ 1
unfolding own_load plain_load load
standing_in_time_off = refl
