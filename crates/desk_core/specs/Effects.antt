-- What an accepted act comes to.
use Rattle.std.specs.Prelude.{ℕ, ◌+◌, List, map, length, Option, Some, None, IsSome, ⊤}
use Rattle.desk_base.specs.declared.rows.tables.Tables.{Tables}
use Rattle.desk_base.specs.declared.rows.tables.Key.{Key}
use Rattle.desk_base.specs.declared.rows.tables.AnyRow.TheVariants.{Booking}
use Rattle.desk_base.specs.declared.rows.bookings.BookingRow.{BookingRow}
use Rattle.desk_base.specs.declared.rows.groups.GroupRow.{GroupRow}
use Rattle.desk_base.specs.declared.asked.acts.Act.{Act}
use Rattle.desk_base.specs.declared.asked.acts.Act.TheVariants as act
use Rattle.desk_base.specs.asked.Acts.{put_by, taken_by, made_by, receipt_of, booked_receipt}
use Rattle.desk_base.specs.asked.Groups.{group_of}
use Rattle.desk_base.specs.search.Listing.{IsFeasible}
use Rattle.desk_core.specs.declared.effects.Effect.{Effect}

-- the rows that it puts, the keys that it takes out, how many bookings it makes, and what it gives
abbrev pub effect_of : Tables → Act → Effect
effect_of t a = record { puts = put_by t a; removes = taken_by t a; made = length (made_by t a); receipt = receipt_of t a }

-- the same of bookings that are made, where those of the keys are taken out
abbrev pub effect_of_made : Tables → List Key → List BookingRow → Effect
effect_of_made t removes made = record { puts = map Booking made; removes = removes; made = length made; receipt = booked_receipt (t.last_booking + 1) made }

-- the group of a number can be booked from s on for the picks
abbrev pub IsFeasibleOf : Tables → Option GroupRow → ℕ → List (Option ℕ) → Type 0
IsFeasibleOf t None s picks = ⊥
IsFeasibleOf t (Some g) s picks = IsFeasible t g s picks

-- where the act books or moves a group, the group can be booked so
abbrev pub IsPlaced : Tables → Act → Type 0
IsPlaced t (act.BookGroup group start picks) = IsFeasibleOf t (group_of t group) start picks
IsPlaced t (act.MoveGroup group start picks) = IsFeasibleOf t (group_of t group) start picks
IsPlaced t _ = ⊤

-- where the act books or moves a group, the group is there
abbrev pub IsKnown : Tables → Act → Type 0
IsKnown t (act.BookGroup group start picks) = IsSome (group_of t group)
IsKnown t (act.MoveGroup group start picks) = IsSome (group_of t group)
IsKnown t _ = ⊤
