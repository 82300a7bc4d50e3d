-- Tables that differ in the row of one key, and the resources on which that row bears.
use Rattle.std.specs.Prelude.{◌≡◌, ℕ, Bool, false, not, ◌||◌, ◌==◌, List, map, filter, find, Option, option_map, option_and_then}
use Rattle.std.specs.List.{list_any}
use Rattle.std.specs.Option.{option_map_or}
use Rattle.desk_base.specs.declared.rows.tables.Tables.{Tables}
use Rattle.desk_base.specs.declared.rows.tables.Table.{Table}
use Rattle.desk_base.specs.declared.rows.tables.Key.{Key}
use Rattle.desk_base.specs.declared.rows.tables.AnyRow.{AnyRow}
use Rattle.desk_base.specs.declared.rows.resources.ResourceRow.{ResourceRow}
use Rattle.desk_base.specs.declared.rows.resources.MemberRow.{MemberRow}
use Rattle.desk_base.specs.declared.rows.tables.Table.TheVariants.{Zone as ZoneTable, Calendar as CalendarTable, Work as WorkTable, Break as BreakTable, Day as DayTable, Off as OffTable, Resource as ResourceTable, Member as MemberTable}
use Rattle.desk_base.specs.declared.rows.tables.AnyRow.TheVariants.{Zone, Calendar, Work, Break, Day, Off, Resource, Member}
use Rattle.desk_base.specs.rows.Rows.{key_of}
use Rattle.desk_base.specs.asked.Refusing.{is_key}
use Rattle.desk_base.specs.meaning.Capacity.{calendar_of}
use Rattle.desk_base.specs.meaning.Load.{LoadSort, plain, crew, pool, unknown, sort_of_kind}
use Rattle.desk_member.specs.Memberships.{of_member}
use Rattle.desk_member.specs.Spans.{rows_of_group}

-- the rows of other keys
abbrev pub rows_beside : {R : Type 0} → (R → AnyRow) → Key → List R → List R
rows_beside any k rows = filter (λ y. not (is_key k (key_of (any y)))) rows

-- the tables have the same bookings, and of each table that says when resources have room the same rows but for the row of k
pub record DiffersAt (t u : Tables) (k : Key) : Type 0 where
  pub zones : rows_beside Zone k u.zones ≡ rows_beside Zone k t.zones
  pub calendars : rows_beside Calendar k u.calendars ≡ rows_beside Calendar k t.calendars
  pub works : rows_beside Work k u.works ≡ rows_beside Work k t.works
  pub breaks : rows_beside Break k u.breaks ≡ rows_beside Break k t.breaks
  pub days : rows_beside Day k u.days ≡ rows_beside Day k t.days
  pub offs : rows_beside Off k u.offs ≡ rows_beside Off k t.offs
  pub resources : rows_beside Resource k u.resources ≡ rows_beside Resource k t.resources
  pub members : rows_beside Member k u.members ≡ rows_beside Member k t.members
  pub bookings : u.bookings ≡ t.bookings

-- the resource has the calendar
abbrev pub has_calendar : Tables → ℕ → ℕ → Bool
has_calendar t c r = option_map_or (λ x. x == c) (calendar_of t r) false

-- the zone of a calendar, if it is there
abbrev pub zone_of : Tables → ℕ → Option ℕ
zone_of t c = option_map (λ x. x.zone) (find (λ x. x.id == c) t.calendars)

-- the calendar of the resource stands in the zone
abbrev pub is_in_zone : Tables → ℕ → ℕ → Bool
is_in_zone t z r = option_map_or (λ n. n == z) (option_and_then (zone_of t) (calendar_of t r)) false

-- a row of the key says something of the resource itself: of what it is, of its calendar, of its time off or of its memberships. What a resource is counts for its members too
abbrev pub touches_by : Table → Tables → Key → ℕ → Bool
touches_by ZoneTable t k r = is_in_zone t k.a r
touches_by CalendarTable t k r = has_calendar t k.a r
touches_by WorkTable t k r = has_calendar t k.a r
touches_by BreakTable t k r = has_calendar t k.a r
touches_by DayTable t k r = has_calendar t k.a r
touches_by OffTable t k r = k.a == r
touches_by ResourceTable t k r = (k.a == r) || list_any (λ (x : MemberRow). x.group == k.a) (of_member r t.members)
touches_by MemberTable t k r = (k.a == r) || (k.b == r)
touches_by _ t k r = false

abbrev pub touches : Tables → Key → ℕ → Bool
touches t k r = touches_by k.table t k r

-- it bears on a resource of which it says something, and on a pool with a member of which it does
abbrev pub bears_by : LoadSort → Tables → Key → ℕ → Bool
bears_by pool t k r = touches t k r || list_any (λ (x : MemberRow). touches t k x.member) (rows_of_group t r)
bears_by plain t k r = touches t k r
bears_by crew t k r = touches t k r
bears_by unknown t k r = touches t k r

abbrev pub bears_on : Tables → Key → ResourceRow → Bool
bears_on t k x = bears_by (sort_of_kind x.kind) t k x.id

-- the resources on which a row of the key bears
abbrev pub suspects_of : Tables → Key → List ℕ
suspects_of t k = map (λ (x : ResourceRow). x.id) (filter (bears_on t k) t.resources)
