-- Leaves that begin after the group: where they can be booked, what they come to, and how late they may begin.
use Rattle.std.proofs.Common.{◌≡◌, refl, List, [], ◌∷◌, Some, None, ℕ}
use Rattle.desk_base.specs.rows.Types.{Tables, GroupRow, BookingRow, Leaf as LeafFields}
use Rattle.desk_base.specs.declared.rows.groups.NodeKind.TheVariants.{All, Leaf}
use Rattle.desk_base.specs.declared.asked.rules.Field.TheVariants.{Offset}
use Rattle.desk_base.specs.declared.asked.acts.Act.TheVariants as act
use Rattle.desk_base.specs.declared.asked.refusals.Refusal.TheVariants as refusal
use Rattle.desk_base.specs.rules.Limits.{offset_limit}
use Rattle.desk_base.specs.meaning.Capacity.{capacity, calendar_capacity}
use Rattle.desk_base.specs.meaning.Eligible.{first_broken_rule}
use Rattle.desk_base.specs.meaning.Load.{room, own_load, plain_load, load}
use Rattle.desk_base.specs.meaning.Picks.{keeps_same}
use Rattle.desk_base.specs.asked.Groups.{effort_minutes}
use Rattle.desk_base.specs.asked.Acts.{made_by}
use Rattle.desk_base.specs.asked.Refusing.{refused_field}
use Rattle.desk_base.specs.rows.Trial.{trial, trial_group, plain_leaf}
use Rattle.desk_base.proofs.worked.Parts.{monday, node, row, rows_at}

-- an hour of one resource, so many minutes after the group's start
abbrev hour_of : ℕ → ℕ → LeafFields
hour_of resource offset = record plain_leaf { offset = offset; required = resource ∷ [] }

-- two leaves, both of which are needed
abbrev both_of : ℕ → LeafFields → LeafFields → GroupRow
both_of id first second = record trial_group { id = id; nodes = node 0 All ∷ node 1 Leaf ∷ node 1 Leaf ∷ []; leaves = first ∷ second ∷ [] }

-- Ann, and an hour later Cyd
abbrev relay : GroupRow
relay = both_of 2 (hour_of 1 0) (hour_of 3 60)

-- Ann, and an hour later Ann again
abbrev twice : GroupRow
twice = both_of 3 (hour_of 1 0) (hour_of 1 60)

abbrev with_both : Tables
with_both = record trial { groups = trial_group ∷ relay ∷ twice ∷ [] }

abbrev hours : List ℕ
hours = monday 8 0 ∷ monday 9 0 ∷ monday 10 0 ∷ monday 11 0 ∷ []

-- Cyd works from 10:00, and the group's window ends at 12:00
relay_rows : rows_at with_both relay hours ≡ row (monday 9 0) (Some 1 ∷ Some 3 ∷ []) ∷ row (monday 10 0) (Some 1 ∷ Some 3 ∷ []) ∷ []
unfolding own_load plain_load load room capacity calendar_capacity first_broken_rule keeps_same
relay_rows = refl

-- one after the other they do not meet
twice_rows : rows_at with_both twice hours ≡ row (monday 8 0) (Some 1 ∷ Some 1 ∷ []) ∷ row (monday 9 0) (Some 1 ∷ Some 1 ∷ []) ∷ row (monday 10 0) (Some 1 ∷ Some 1 ∷ []) ∷ []
unfolding own_load plain_load load room capacity calendar_capacity first_broken_rule keeps_same
twice_rows = refl

-- each is booked over its own time
abbrev relay_bookings : List BookingRow
relay_bookings =
    record { id = 1; group = 2; leaf = 0; resource = 1; from = monday 9 0; to = monday 10 0; effort = 1 }
    ∷ record { id = 2; group = 2; leaf = 1; resource = 3; from = monday 10 0; to = monday 11 0; effort = 1 } ∷ []

relay_booked : made_by with_both (act.BookGroup 2 (monday 9 0) (Some 1 ∷ Some 3 ∷ [])) ≡ relay_bookings
relay_booked = refl

relay_effort : effort_minutes relay_bookings ≡ 120
relay_effort = refl

-- a leaf begins at most 14 days after its group
late_enough : refused_field trial (act.PutGroup (both_of 2 (hour_of 1 0) (hour_of 3 offset_limit))) ≡ None
late_enough = refl

too_late : refused_field trial (act.PutGroup (both_of 2 (hour_of 1 0) (hour_of 3 20161))) ≡ Some (refusal.BadField Offset)
too_late = refl
