-- The tables with a change: rows taken out, and rows put among others in the order of their keys.
use Rattle.std.specs.Prelude.{List, ◌∷◌, ◌++◌, filter, fold, Bool}
use Rattle.std.specs.Ordering.{is_lt}
use Rattle.desk_base.specs.rows.Types.{Tables, Table, Key, AnyRow}
use Rattle.desk_base.specs.declared.rows.tables.Table.TheVariants.{Zone as ZoneTable, Calendar as CalendarTable, Work as WorkTable, Break as BreakTable, Day as DayTable, Off as OffTable, Unit as UnitTable, Site as SiteTable, Role as RoleTable, Characteristic as CharacteristicTable, Territory as TerritoryTable, Resource as ResourceTable, HasRole as HasRoleTable, HasCharacteristic as HasCharacteristicTable, HasTerritory as HasTerritoryTable, Member as MemberTable, Group as GroupTable, Booking as BookingTable, Caller as CallerTable, BookingNumbers}
use Rattle.desk_base.specs.declared.rows.tables.AnyRow.TheVariants.{Zone, Calendar, Work, Break, Day, Off, Unit, Site, Role, Characteristic, Territory, Resource, HasRole, HasCharacteristic, HasTerritory, Member, Group, Booking, Caller}
use Rattle.desk_base.specs.declared.asked.acts.Change.{Change}
use Rattle.desk_base.specs.rows.Keys.{key_cmp}
use Rattle.desk_base.specs.rows.Rows.{key_of}

-- the first key comes before the second
abbrev pub is_below : Key → Key → Bool
is_below x y = is_lt (key_cmp x y)

-- the rows whose keys are below k
abbrev pub rows_below : {R : Type 0} → (R → Key) → Key → List R → List R
rows_below key k rows = filter (λ y. is_below (key y) k) rows

-- the rows whose keys are above k
abbrev pub rows_above : {R : Type 0} → (R → Key) → Key → List R → List R
rows_above key k rows = filter (λ y. is_below k (key y)) rows

-- with one more row, which stands in the place of the row of its key, if there is one
unfoldable pub with_one : {R : Type 0} → (R → Key) → R → List R → List R
with_one key x rows = rows_below key (key x) rows ++ x ∷ rows_above key (key x) rows

-- without the row of a key, if there is one
unfoldable pub without_one : {R : Type 0} → (R → Key) → Key → List R → List R
without_one key k rows = rows_below key k rows ++ rows_above key k rows

-- the tables with a row: in the place of the row of its key, or added
abbrev pub with_row : Tables → AnyRow → Tables
with_row t (Zone x) = record t { zones = with_one (λ y. key_of (Zone y)) x t.zones }
with_row t (Calendar x) = record t { calendars = with_one (λ y. key_of (Calendar y)) x t.calendars }
with_row t (Work x) = record t { works = with_one (λ y. key_of (Work y)) x t.works }
with_row t (Break x) = record t { breaks = with_one (λ y. key_of (Break y)) x t.breaks }
with_row t (Day x) = record t { days = with_one (λ y. key_of (Day y)) x t.days }
with_row t (Off x) = record t { offs = with_one (λ y. key_of (Off y)) x t.offs }
with_row t (Unit x) = record t { units = with_one (λ y. key_of (Unit y)) x t.units }
with_row t (Site x) = record t { sites = with_one (λ y. key_of (Site y)) x t.sites }
with_row t (Role x) = record t { roles = with_one (λ y. key_of (Role y)) x t.roles }
with_row t (Characteristic x) = record t { characteristics = with_one (λ y. key_of (Characteristic y)) x t.characteristics }
with_row t (Territory x) = record t { territories = with_one (λ y. key_of (Territory y)) x t.territories }
with_row t (Resource x) = record t { resources = with_one (λ y. key_of (Resource y)) x t.resources }
with_row t (HasRole x) = record t { has_roles = with_one (λ y. key_of (HasRole y)) x t.has_roles }
with_row t (HasCharacteristic x) = record t { has_characteristics = with_one (λ y. key_of (HasCharacteristic y)) x t.has_characteristics }
with_row t (HasTerritory x) = record t { has_territories = with_one (λ y. key_of (HasTerritory y)) x t.has_territories }
with_row t (Member x) = record t { members = with_one (λ y. key_of (Member y)) x t.members }
with_row t (Group x) = record t { groups = with_one (λ y. key_of (Group y)) x t.groups }
with_row t (Booking x) = record t { bookings = with_one (λ y. key_of (Booking y)) x t.bookings }
with_row t (Caller x) = record t { callers = with_one (λ y. key_of (Caller y)) x t.callers }

-- the tables without the row of this key in one of them
abbrev pub without_row : Tables → Table → Key → Tables
without_row t ZoneTable k = record t { zones = without_one (λ y. key_of (Zone y)) k t.zones }
without_row t CalendarTable k = record t { calendars = without_one (λ y. key_of (Calendar y)) k t.calendars }
without_row t WorkTable k = record t { works = without_one (λ y. key_of (Work y)) k t.works }
without_row t BreakTable k = record t { breaks = without_one (λ y. key_of (Break y)) k t.breaks }
without_row t DayTable k = record t { days = without_one (λ y. key_of (Day y)) k t.days }
without_row t OffTable k = record t { offs = without_one (λ y. key_of (Off y)) k t.offs }
without_row t UnitTable k = record t { units = without_one (λ y. key_of (Unit y)) k t.units }
without_row t SiteTable k = record t { sites = without_one (λ y. key_of (Site y)) k t.sites }
without_row t RoleTable k = record t { roles = without_one (λ y. key_of (Role y)) k t.roles }
without_row t CharacteristicTable k = record t { characteristics = without_one (λ y. key_of (Characteristic y)) k t.characteristics }
without_row t TerritoryTable k = record t { territories = without_one (λ y. key_of (Territory y)) k t.territories }
without_row t ResourceTable k = record t { resources = without_one (λ y. key_of (Resource y)) k t.resources }
without_row t HasRoleTable k = record t { has_roles = without_one (λ y. key_of (HasRole y)) k t.has_roles }
without_row t HasCharacteristicTable k = record t { has_characteristics = without_one (λ y. key_of (HasCharacteristic y)) k t.has_characteristics }
without_row t HasTerritoryTable k = record t { has_territories = without_one (λ y. key_of (HasTerritory y)) k t.has_territories }
without_row t MemberTable k = record t { members = without_one (λ y. key_of (Member y)) k t.members }
without_row t GroupTable k = record t { groups = without_one (λ y. key_of (Group y)) k t.groups }
without_row t BookingTable k = record t { bookings = without_one (λ y. key_of (Booking y)) k t.bookings }
without_row t CallerTable k = record t { callers = without_one (λ y. key_of (Caller y)) k t.callers }
without_row t BookingNumbers k = t

-- the tables without the row of a key
abbrev pub without_key : Tables → Key → Tables
without_key t k = without_row t k.table k

-- the tables with these rows, put one after another
abbrev pub with_rows : Tables → List AnyRow → Tables
with_rows t rows = fold with_row t rows

-- the tables without the rows of these keys
abbrev pub without_keys : Tables → List Key → Tables
without_keys t keys = fold without_key t keys

-- the tables with a change: its keys' rows are taken out, its rows are put, and the counters are its own
unfoldable pub with_change : Tables → Change → Tables
with_change t c = record (with_rows (without_keys t c.removes) c.puts) { revision = c.revision; last_booking = c.last_booking }
