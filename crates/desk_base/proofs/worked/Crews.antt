-- A crew and its member, and a membership that ends.
use Rattle.std.proofs.Common.{◌≡◌, ℕ, ◌≤◌, refl, List, [], ◌∷◌, ◌++◌, map, Some, None, arith}
use Rattle.desk_base.specs.rows.Types.{Tables, GroupRow, Leaf as LeafFields, BookingRow, MemberRow}
use Rattle.desk_base.specs.declared.rows.groups.NodeKind.TheVariants.{All, Leaf}
use Rattle.desk_base.specs.declared.rows.groups.Same.TheVariants.{Crew as SameCrew}
use Rattle.desk_base.specs.declared.rows.resources.Kind.TheVariants.{Generic, Crew}
use Rattle.desk_base.specs.declared.asked.rules.Verdict.TheVariants.{Unfit}
use Rattle.desk_base.specs.meaning.Capacity.{capacity, calendar_capacity}
use Rattle.desk_base.specs.meaning.Eligible.{first_broken_rule}
use Rattle.desk_base.specs.meaning.Load.{members, weight, room, own_load, plain_load, load, ask_of, shown_at}
use Rattle.desk_base.specs.meaning.Picks.{keeps_same, is_member_throughout, first_broken_same}
use Rattle.desk_base.specs.search.Listing.{asks_for}
use Rattle.desk_base.specs.search.Verdicts.{IsVerdict}
use Rattle.desk_base.specs.rows.Trial.{trial, trial_group, plain_leaf}
use Rattle.desk_base.proofs.worked.Parts.{monday, group_resource, member_from_to, node, row, rows_at}

abbrev with_crew : List MemberRow → Tables
with_crew memberships = record trial { resources = trial.resources ++ group_resource 10 Crew ∷ []; members = memberships }

-- crew 10 has member 1 from 08:00 to 12:00
abbrev all_morning : Tables
all_morning = with_crew (member_from_to 10 1 8 12 ∷ [])

abbrev leaf_of_kind_crew : LeafFields
leaf_of_kind_crew = record plain_leaf { kinds = Crew ∷ [] }

-- a crew and a person, from 08:00 to 09:00
abbrev crew_and_person : GroupRow
crew_and_person = record trial_group { id = 2; to = monday 9 0; nodes = node 0 All ∷ node 1 Leaf ∷ node 1 Leaf ∷ []; leaves = leaf_of_kind_crew ∷ record plain_leaf { kinds = Generic ∷ [] } ∷ [] }

one_row : rows_at all_morning crew_and_person (monday 8 0 ∷ []) ≡ row (monday 8 0) (Some 10 ∷ Some 2 ∷ []) ∷ []
unfolding own_load plain_load load room capacity calendar_capacity first_broken_rule keeps_same
one_row = refl

-- a booking on the crew loads its member too
member_twice : weight all_morning (asks_for crew_and_person (monday 8 0) (Some 10 ∷ Some 1 ∷ [])) 1 (monday 8 0) ≡ 2
unfolding own_load plain_load load
member_twice = refl

room_of_member : room all_morning 1 (monday 8 0) ≡ Some 1
unfolding room capacity calendar_capacity
room_of_member = refl

crew_and_its_member : IsVerdict all_morning crew_and_person (monday 8 0) (Some 10 ∷ Some 1 ∷ []) Unfit
unfolding own_load plain_load load room capacity calendar_capacity first_broken_rule keeps_same
crew_and_its_member = (
  record { shape = record { grid = record { from = omega arith; below = omega arith; steps = refl }; pattern = (0, omega arith, refl) }; serve = refl },
  refl,
  λ fits. let over : 2 ≤ 1 = fits.at 1 (monday 8 0) (omega arith, omega arith) in absurd (omega (arith, over)),
)

-- crew 10 has member 1 from 08:00 to 10:00
abbrev until_ten : Tables
until_ten = with_crew (member_from_to 10 1 8 10 ∷ [])

-- a crew, each half hour from 08:00 to 12:00
abbrev crew_alone : GroupRow
crew_alone = record trial_group { id = 2; step = 30; leaves = leaf_of_kind_crew ∷ [] }

abbrev half_hours : List ℕ
half_hours = monday 8 0 ∷ monday 8 30 ∷ monday 9 0 ∷ monday 9 30 ∷ monday 10 0 ∷ monday 10 30 ∷ monday 11 0 ∷ monday 11 30 ∷ []

three_rows : rows_at until_ten crew_alone half_hours ≡ row (monday 8 0) (Some 10 ∷ []) ∷ row (monday 8 30) (Some 10 ∷ []) ∷ row (monday 9 0) (Some 10 ∷ []) ∷ []
unfolding own_load plain_load load room capacity calendar_capacity first_broken_rule keeps_same
three_rows = refl

-- while it has a member a crew has room without bound, and then none
rooms_of_crew : map (room until_ten 10) (monday 9 59 ∷ monday 10 0 ∷ []) ≡ None ∷ Some 0 ∷ []
unfolding room
rooms_of_crew = refl

members_of_crew : map (members until_ten 10) (monday 7 59 ∷ monday 8 0 ∷ monday 9 59 ∷ monday 10 0 ∷ []) ≡ [] ∷ (1 ∷ []) ∷ (1 ∷ []) ∷ [] ∷ []
members_of_crew = refl

-- from 09:30 on it would work past the end of its membership
past_the_end : weight until_ten (asks_for crew_alone (monday 9 30) (Some 10 ∷ [])) 10 (monday 10 0) ≡ 1
unfolding own_load plain_load load
past_the_end = refl

abbrev booked_at_nine : List BookingRow
booked_at_nine = record { id = 1; group = 2; leaf = 0; resource = 10; from = monday 9 0; to = monday 10 0; effort = 1 } ∷ []

-- without the membership a standing booking of the crew has no room
left_without_member : room (with_crew []) 10 (monday 9 0) ≡ Some 0
unfolding room
left_without_member = refl

still_booked : weight (with_crew []) (map ask_of booked_at_nine) 10 (monday 9 0) ≡ 1
unfolding own_load plain_load load
still_booked = refl

booking_is_shown : shown_at (with_crew []) booked_at_nine 10 (monday 9 0) ≡ Some 1
unfolding own_load plain_load load
booking_is_shown = refl

-- of the same crew is who is a member throughout its own leaf's time
abbrev same_crew : GroupRow
same_crew = record crew_and_person { nodes = record (node 0 All) { same = SameCrew } ∷ node 1 Leaf ∷ node 1 Leaf ∷ []; leaves = plain_leaf ∷ plain_leaf ∷ [] }

member_throughout : first_broken_same until_ten (monday 9 0) same_crew.nodes same_crew.leaves (Some 1 ∷ []) ≡ None
unfolding keeps_same is_member_throughout
member_throughout = refl

member_in_part : first_broken_same until_ten (monday 9 1) same_crew.nodes same_crew.leaves (Some 1 ∷ []) ≡ Some 0
unfolding keeps_same is_member_throughout
member_in_part = refl

-- a chosen crew is a member of nothing
crew_in_no_crew : first_broken_same until_ten (monday 8 0) same_crew.nodes same_crew.leaves (Some 10 ∷ []) ≡ Some 0
unfolding keeps_same is_member_throughout
crew_in_no_crew = refl
