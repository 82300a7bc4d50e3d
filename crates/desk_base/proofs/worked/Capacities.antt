-- What a calendar gives: day rows, breaks, times off, and a capacity above 1.
use Rattle.std.proofs.Common.{◌≡◌, ℕ, refl, [], ◌∷◌, ◌++◌, map, Some, None}
use Rattle.std.specs.Prelude.{codes}
use Rattle.desk_base.specs.rows.Types.{Tables, GroupRow, Leaf as LeafFields}
use Rattle.desk_base.specs.declared.rows.groups.NodeKind.TheVariants.{All, Leaf}
use Rattle.desk_base.specs.meaning.Capacity.{capacity, calendar_capacity}
use Rattle.desk_base.specs.meaning.Eligible.{first_broken_rule}
use Rattle.desk_base.specs.rules.Rules.{first_broken}
use Rattle.desk_base.specs.rules.Fields.{work_rules}
use Rattle.desk_base.specs.meaning.Load.{weight, room, own_load, plain_load, load, shown_at}
use Rattle.desk_base.specs.meaning.Picks.{keeps_same}
use Rattle.desk_base.specs.search.Listing.{other_asks, asks_for}
use Rattle.desk_base.specs.rows.Trial.{trial, trial_group, plain_leaf, work_on_monday}
use Rattle.desk_base.proofs.worked.Parts.{monday, plain_resource, node, row, rows_at}

-- Ann works from 08:00 to 12:00, and Cyd from 10:00
early : map (capacity trial 1) (monday 7 59 ∷ monday 8 0 ∷ monday 11 59 ∷ monday 12 0 ∷ []) ≡ 0 ∷ 1 ∷ 1 ∷ 0 ∷ []
unfolding capacity calendar_capacity
early = refl

late : map (capacity trial 3) (monday 8 0 ∷ monday 9 59 ∷ monday 10 0 ∷ []) ≡ 0 ∷ 0 ∷ 1 ∷ []
unfolding capacity calendar_capacity
late = refl

-- day rows from 00:00 to 01:00 and from 10:00 to 11:00 of that Monday, and a break each Monday from 10:00 to 11:00
abbrev with_days : Tables
with_days = record trial {
  days = record { calendar = 1; day = 20094; from = 0; to = 60; capacity = 5 } ∷ record { calendar = 1; day = 20094; from = 600; to = 660; capacity = 5 } ∷ [];
  breaks = record { calendar = 1; weekday = 0; from = 600; to = 660 } ∷ [];
}

-- a day with day rows has no other capacity, and they stand above breaks; a week later the break holds
by_day_rows : map (capacity with_days 1) (monday 0 0 ∷ monday 8 0 ∷ monday 10 0 ∷ monday 176 0 ∷ monday 178 0 ∷ []) ≡ 5 ∷ 0 ∷ 5 ∷ 1 ∷ 0 ∷ []
unfolding capacity calendar_capacity
by_day_rows = refl

-- a time off from 08:30 to 10:30, which stands above day rows too
abbrev with_off : Tables
with_off = record with_days { offs = record { resource = 1; from = monday 8 30; to = monday 10 30 } ∷ [] }

in_time_off : map (capacity with_off 1) (monday 10 0 ∷ monday 10 29 ∷ monday 10 30 ∷ []) ≡ 0 ∷ 0 ∷ 5 ∷ []
unfolding capacity calendar_capacity
in_time_off = refl

-- calendar 3 gives three at a time on Mondays from 08:00 to 12:00, and resource 4 is on it
abbrev three_at_a_time : Tables
three_at_a_time = record trial {
  calendars = trial.calendars ++ record { id = 3; name = codes "X"; zone = 1 } ∷ [];
  works = trial.works ++ record (work_on_monday 3 480) { capacity = 3 } ∷ [];
  resources = trial.resources ++ plain_resource 4 3 ∷ [];
}

abbrev leaf_of_effort : ℕ → LeafFields
leaf_of_effort effort = record plain_leaf { effort = effort; required = 4 ∷ [] }

-- one resource serves two leaves, of efforts 2 and 1
abbrev two_efforts : GroupRow
two_efforts = record trial_group { id = 2; nodes = node 0 All ∷ node 1 Leaf ∷ node 1 Leaf ∷ []; leaves = leaf_of_effort 2 ∷ leaf_of_effort 1 ∷ [] }

one_serves_both : rows_at three_at_a_time two_efforts (monday 8 0 ∷ []) ≡ row (monday 8 0) (Some 4 ∷ Some 4 ∷ []) ∷ []
unfolding own_load plain_load load room capacity calendar_capacity first_broken_rule keeps_same
one_serves_both = refl

abbrev both_booked : Tables
both_booked = record three_at_a_time {
  bookings = record { id = 1; group = 2; leaf = 0; resource = 4; from = monday 8 0; to = monday 9 0; effort = 2 } ∷ record { id = 2; group = 2; leaf = 1; resource = 4; from = monday 8 0; to = monday 9 0; effort = 1 } ∷ [];
}

abbrev one_more : GroupRow
one_more = record trial_group { id = 3; leaves = leaf_of_effort 1 ∷ [] }

room_of_three : room both_booked 4 (monday 8 0) ≡ Some 3
unfolding room capacity calendar_capacity
room_of_three = refl

standing_three : weight both_booked (other_asks both_booked one_more) 4 (monday 8 0) ≡ 3
unfolding own_load plain_load load
standing_three = refl

asked_one : weight both_booked (asks_for one_more (monday 8 0) (Some 4 ∷ [])) 4 (monday 8 0) ≡ 1
unfolding own_load plain_load load
asked_one = refl

first_is_shown : shown_at both_booked both_booked.bookings 4 (monday 8 0) ≡ Some 1
unfolding own_load plain_load load
first_is_shown = refl

-- an empty work row overlaps no other
abbrev with_empty_work : Tables
with_empty_work = record trial { works = record { calendar = 1; weekday = 0; from = 0; to = 20; capacity = 1 } ∷ record { calendar = 1; weekday = 0; from = 10; to = 10; capacity = 1 } ∷ [] }

no_overlap : first_broken (work_rules with_empty_work (record { calendar = 1; weekday = 0; from = 0; to = 20; capacity = 1 })) ≡ None
no_overlap = refl
