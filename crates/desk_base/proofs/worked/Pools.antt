-- A pool: it has the room of its members, and what they do weighs on it.
use Rattle.std.proofs.Common.{◌≡◌, ℕ, refl, List, [], ◌∷◌, ◌++◌, map, Some}
use Rattle.desk_base.specs.rows.Types.{Tables, Ask, BookingRow, GroupRow}
use Rattle.desk_base.specs.declared.rows.resources.Kind.TheVariants.{Crew, Pool}
use Rattle.desk_base.specs.meaning.Capacity.{capacity, calendar_capacity}
use Rattle.desk_base.specs.meaning.Load.{members, weight, room, own_load, plain_load, load, shown_at}
use Rattle.desk_base.specs.search.Listing.{other_asks, asks_for}
use Rattle.desk_base.specs.rows.Trial.{trial, trial_group}
use Rattle.desk_base.proofs.worked.Parts.{monday, group_resource, member_from_to}

-- the first hour of one resource
abbrev booked : ℕ → ℕ → ℕ → BookingRow
booked id group resource = record { id = id; group = group; leaf = 0; resource = resource; from = monday 8 0; to = monday 9 0; effort = 1 }

-- pool 20 has members 1 and 2 from 08:00 to 12:00, and both are booked from 08:00 to 09:00
abbrev both_booked : Tables
both_booked = record trial {
  resources = trial.resources ++ group_resource 20 Pool ∷ [];
  members = member_from_to 20 1 8 12 ∷ member_from_to 20 2 8 12 ∷ [];
  bookings = booked 1 1 1 ∷ booked 2 2 2 ∷ [];
}

abbrev third : GroupRow
third = record trial_group { id = 3 }

members_of_pool : members both_booked 20 (monday 8 0) ≡ 1 ∷ 2 ∷ []
members_of_pool = refl

-- two people, one at a time each
room_of_pool : map (room both_booked 20) (monday 7 59 ∷ monday 8 0 ∷ monday 11 59 ∷ monday 12 0 ∷ []) ≡ Some 0 ∷ Some 2 ∷ Some 2 ∷ Some 0 ∷ []
unfolding room capacity calendar_capacity
room_of_pool = refl

standing_on_pool : weight both_booked (other_asks both_booked third) 20 (monday 8 0) ≡ 2
unfolding own_load plain_load load
standing_on_pool = refl

asked_of_pool : weight both_booked (asks_for third (monday 8 0) (Some 20 ∷ [])) 20 (monday 8 0) ≡ 1
unfolding own_load plain_load load
asked_of_pool = refl

-- the booking of a member counts in the pool's weight, and the first is shown
member_is_shown : shown_at both_booked both_booked.bookings 20 (monday 8 0) ≡ Some 1
unfolding own_load plain_load load
member_is_shown = refl

-- an hour later the pool is free
free_at_nine : weight both_booked (other_asks both_booked third) 20 (monday 9 0) ≡ 0
unfolding own_load plain_load load
free_at_nine = refl

-- a booking on a pool loads no member
member_of_pool : weight both_booked (asks_for third (monday 8 0) (Some 20 ∷ [])) 1 (monday 8 0) ≡ 0
unfolding own_load plain_load load
member_of_pool = refl

-- resources 1 and 2 are in crew 10 and in pool 20
abbrev crew_and_pool : Tables
crew_and_pool = record trial {
  resources = trial.resources ++ group_resource 10 Crew ∷ group_resource 20 Pool ∷ [];
  members = member_from_to 10 1 8 12 ∷ member_from_to 10 2 8 12 ∷ member_from_to 20 1 8 12 ∷ member_from_to 20 2 8 12 ∷ [];
}

-- one booking on the crew, one on the pool and one on a person
abbrev three_asks : List Ask
three_asks = map (λ resource. record { resource = resource; window = record { from = monday 8 0; to = monday 9 0 }; effort = 1 }) (10 ∷ 20 ∷ 1 ∷ [])

-- a booking on the crew counts once for each member of the pool
three_weights : map (λ resource. weight crew_and_pool three_asks resource (monday 8 0)) (1 ∷ 2 ∷ 10 ∷ 20 ∷ []) ≡ 2 ∷ 1 ∷ 1 ∷ 4 ∷ []
unfolding own_load plain_load load
three_weights = refl
