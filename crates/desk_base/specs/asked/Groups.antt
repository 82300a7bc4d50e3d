-- Requirement groups by their numbers, and their standing bookings.
use Rattle.std.specs.Prelude.{ℕ, ◌-◌, ◌*◌, ◌==◌, Bool, List, filter, find, sum_by, Option}
use Rattle.std.specs.List.{list_any}
use Rattle.desk_base.specs.rows.Types.{Tables, GroupRow, BookingRow}

-- the group of this number, if there is one
abbrev pub group_of : Tables → ℕ → Option GroupRow
group_of t id = find (λ g. g.id == id) t.groups

-- the standing bookings of the group of this number
abbrev pub booked_for : Tables → ℕ → List BookingRow
booked_for t id = filter (λ b. b.group == id) t.bookings

-- bookings of the group stand
abbrev pub is_booked : Tables → ℕ → Bool
is_booked t id = list_any (λ b. b.group == id) t.bookings

-- effort times minutes, summed over the bookings
abbrev pub effort_minutes : List BookingRow → ℕ
effort_minutes bookings = sum_by (λ b. b.effort * (b.to - b.from)) bookings
