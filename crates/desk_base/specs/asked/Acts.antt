-- What an accepted change does to the tables, and what it gives.
use Rattle.std.specs.Prelude.{ℕ, ◌+◌, List, [], ◌∷◌, ◌++◌, map, length, Option}
use Rattle.std.specs.Option.{option_map_or}
use Rattle.desk_base.specs.rows.Types.{Tables, Key, AnyRow, GroupRow, BookingRow}
use Rattle.desk_base.specs.declared.rows.tables.Table.TheVariants.{Group as GroupTable, Booking as BookingTable}
use Rattle.desk_base.specs.declared.rows.tables.AnyRow.TheVariants.{Group, Booking, Caller}
use Rattle.desk_base.specs.declared.rows.bookings.Receipt.{Receipt}
use Rattle.desk_base.specs.declared.rows.bookings.Receipt.TheVariants as receipt
use Rattle.desk_base.specs.declared.asked.acts.Act.{Act}
use Rattle.desk_base.specs.declared.asked.acts.Act.TheVariants as act
use Rattle.desk_base.specs.declared.asked.acts.Call.{Call}
use Rattle.desk_base.specs.declared.asked.acts.Change.{Change}
use Rattle.desk_base.specs.rows.Keys.{id_key}
use Rattle.desk_base.specs.meaning.Time.{leaf_time}
use Rattle.desk_base.specs.meaning.Picks.{Choice, choices_of}
use Rattle.desk_base.specs.asked.Groups.{group_of, booked_for, effort_minutes}
use Rattle.desk_base.specs.changes.Changes.{with_change}

-- one booking for each chosen leaf over its time at s, in the order of the leaves, numbered from n on
abbrev pub bookings_from : ℕ → GroupRow → ℕ → List Choice → List BookingRow
bookings_from n g s [] = []
bookings_from n g s (c ∷ cs) =
    record { id = n; group = g.id; leaf = c.number; resource = c.resource; from = (leaf_time c.leaf s).from; to = (leaf_time c.leaf s).to; effort = c.leaf.effort }
    ∷ bookings_from (n + 1) g s cs

-- the bookings of a group for its picks from s on, numbered on from the greatest number ever given
abbrev pub new_bookings : Tables → ℕ → ℕ → List (Option ℕ) → List BookingRow
new_bookings t id s picks = option_map_or (λ g. bookings_from (t.last_booking + 1) g s (choices_of 0 g.leaves picks)) (group_of t id) []

-- the keys of the group's standing bookings
abbrev pub booked_keys : Tables → ℕ → List Key
booked_keys t id = map (λ b. id_key BookingTable b.id) (booked_for t id)

-- the bookings that an act makes
abbrev pub made_by : Tables → Act → List BookingRow
made_by t (act.BookGroup group start picks) = new_bookings t group start picks
made_by t (act.MoveGroup group start picks) = new_bookings t group start picks
made_by t _ = []

-- the rows that an act puts
abbrev pub put_by : Tables → Act → List AnyRow
put_by t (act.Put row) = row ∷ []
put_by t (act.PutGroup g) = Group g ∷ []
put_by t a = map Booking (made_by t a)

-- the keys of the rows that an act takes out
abbrev pub taken_by : Tables → Act → List Key
taken_by t (act.Remove key) = key ∷ []
taken_by t (act.DropGroup group) = id_key GroupTable group ∷ []
taken_by t (act.MoveGroup group start picks) = booked_keys t group
taken_by t (act.CancelGroup group) = booked_keys t group
taken_by t _ = []

-- what is given for bookings that are made
abbrev pub booked_receipt : ℕ → List BookingRow → Receipt
booked_receipt first made = receipt.Booked first (length made) (effort_minutes made)

-- what an act gives
abbrev pub receipt_of : Tables → Act → Receipt
receipt_of t (act.Put row) = receipt.Put
receipt_of t (act.Remove key) = receipt.Removed
receipt_of t (act.PutGroup g) = receipt.Put
receipt_of t (act.DropGroup group) = receipt.Removed
receipt_of t (act.CancelGroup group) = receipt.Cancelled (length (booked_for t group)) (effort_minutes (booked_for t group))
receipt_of t a = booked_receipt (t.last_booking + 1) (made_by t a)

-- the caller's row after its change
abbrev pub caller_row : Tables → Call → Act → AnyRow
caller_row t call a = Caller (record { caller = call.caller; last = call.number; receipt = receipt_of t a })

-- the rows of an accepted change: what the act puts and takes out, and the caller's row; the revision goes up by one, and booking numbers go on
abbrev pub change_of : Tables → Call → Act → Change
change_of t call a =
    record { puts = put_by t a ++ caller_row t call a ∷ []; removes = taken_by t a; revision = t.revision + 1; last_booking = t.last_booking + length (made_by t a) }

-- the tables after an accepted change
unfoldable pub after_act : Tables → Call → Act → Tables
after_act t call a = with_change t (change_of t call a)
