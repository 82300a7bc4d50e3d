-- The least booking that counts at a place.
use Rattle.std.specs.Prelude.{ℕ, Bool, not, ◌&&◌, ◌==◌, nat_lt, List, [], ◌∷◌, find, Option, Some, None, option_map, if◌then◌else◌}
use Rattle.std.specs.List.{list_any}
use Rattle.desk_base.specs.declared.rows.tables.Tables.{Tables}
use Rattle.desk_base.specs.declared.rows.bookings.BookingRow.{BookingRow}
use Rattle.desk_base.specs.meaning.Load.{LoadSort, plain, crew, pool, unknown, sort_of, counts, ask_of}
use Rattle.desk_member.specs.Spans.{rows_of_group}
use Rattle.desk_load.specs.declared.view.places.Place.{Place}
use Rattle.desk_load.specs.Views.{ViewParts, is_own}
use Rattle.desk_load.specs.Scans.{plain_and_groups, members_and_groups}

-- the lesser of two numbers, of which one or both may be missing
abbrev pub least : Option ℕ → Option ℕ → Option ℕ
least None o = o
least (Some n) None = Some n
least (Some n) (Some k) = if nat_lt k n then Some k else Some n

-- the booking is none of the group that is left out, and counts at the place
abbrev pub counts_at : ViewParts → Place → BookingRow → Bool
counts_at v p b = not (is_own v.without b) && counts v.tables p.resource p.minute (ask_of b)

-- the booking stands on one of these resources
abbrev pub stands_on : List ℕ → BookingRow → Bool
stands_on seen b = list_any (λ r. r == b.resource) seen

-- the first of these bookings that counts at the place
abbrev pub first_of : ViewParts → Place → List BookingRow → Option ℕ
first_of v p bookings = option_map (λ b. b.id) (find (counts_at v p) bookings)

-- the first booking on these resources that counts at the place
abbrev pub first_on : ViewParts → Place → List ℕ → Option ℕ
first_on v p seen = option_map (λ b. b.id) (find (λ b. stands_on seen b && counts_at v p b) v.tables.bookings)

-- the resources whose bookings may count on r at k: r, the crews that it is in, and where r is a pool its members and theirs
abbrev pub bearing_by : LoadSort → Tables → ℕ → ℕ → List ℕ
bearing_by plain t r k = plain_and_groups t r k
bearing_by crew t r k = r ∷ []
bearing_by pool t r k = r ∷ members_and_groups t (rows_of_group t r) k
bearing_by unknown t r k = []

abbrev pub bearing_on : Tables → ℕ → ℕ → List ℕ
bearing_on t r k = bearing_by (sort_of t r) t r k
