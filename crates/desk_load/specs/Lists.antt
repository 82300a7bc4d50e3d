-- Bookings by what they belong to.
use Rattle.std.specs.Prelude.{ℕ, List, [], map, filter, find}
use Rattle.std.specs.Option.{option_map_or}
use Rattle.desk_base.specs.declared.rows.bookings.BookingRow.{BookingRow}
use Rattle.desk_base.specs.rows.Ranges.{owns}
use Rattle.desk_load.specs.declared.lists.BookingList.{BookingList}
use Rattle.desk_load.specs.declared.lists.Owned.{Owned}

-- a booking with the number of what it belongs to
abbrev pub owned : (BookingRow → ℕ) → BookingRow → Owned
owned owner b = record { owner = owner b; booking = b }

-- those of a number, as its list
abbrev pub owned_bookings : List Owned → ℕ → BookingList
owned_bookings rows n = record { number = n; bookings = map (λ o. o.booking) (filter (owns (λ o. o.owner) n) rows) }

-- for each number the bookings that belong to it, in order
abbrev pub lists_of : (BookingRow → ℕ) → List ℕ → List BookingRow → List BookingList
lists_of owner numbers bookings = map (λ n. record { number = n; bookings = filter (owns owner n) bookings }) numbers

-- the list that is found under a number, or none
abbrev pub list_under : ℕ → List BookingList → List BookingRow
list_under n lists = option_map_or (λ l. l.bookings) (find (owns (λ l. l.number) n) lists) []
