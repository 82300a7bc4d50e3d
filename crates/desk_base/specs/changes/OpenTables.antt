-- Tables that stand open for a change: lists that show how many rows they take up without memory.
use Rattle.std.specs.Prelude.{ℕ, ◌-◌, ◌≤◌, List, vec_len, vec_capacity}
use Rattle.std.specs.List.{All}
use Rattle.desk_base.specs.rows.Types.{Tables, Table, AnyRow}
use Rattle.desk_base.specs.declared.changes.open_tables.OpenTables.{OpenTables}
use Rattle.desk_base.specs.declared.rows.tables.Table.TheVariants.{Zone as ZoneTable, Calendar as CalendarTable, Work as WorkTable, Break as BreakTable, Day as DayTable, Off as OffTable, Unit as UnitTable, Site as SiteTable, Role as RoleTable, Characteristic as CharacteristicTable, Territory as TerritoryTable, Resource as ResourceTable, HasRole as HasRoleTable, HasCharacteristic as HasCharacteristicTable, HasTerritory as HasTerritoryTable, Member as MemberTable, Group as GroupTable, Booking as BookingTable, Caller as CallerTable, BookingNumbers}
use Rattle.desk_base.specs.rows.Rows.{key_of}

-- the tables that stand open
abbrev pub tables_of : OpenTables → Tables
tables_of o =
    record {
      zones = o.zones.items;
      calendars = o.calendars.items;
      works = o.works.items;
      breaks = o.breaks.items;
      days = o.days.items;
      offs = o.offs.items;
      units = o.units.items;
      sites = o.sites.items;
      roles = o.roles.items;
      characteristics = o.characteristics.items;
      territories = o.territories.items;
      resources = o.resources.items;
      has_roles = o.has_roles.items;
      has_characteristics = o.has_characteristics.items;
      has_territories = o.has_territories.items;
      members = o.members.items;
      groups = o.groups.items;
      bookings = o.bookings.items;
      callers = o.callers.items;
      revision = o.revision;
      last_booking = o.last_booking;
    }

-- how many more rows a table takes up without memory. Booking numbers are no rows
abbrev pub room_in : OpenTables → Table → ℕ
room_in o ZoneTable = vec_capacity o.zones - vec_len o.zones
room_in o CalendarTable = vec_capacity o.calendars - vec_len o.calendars
room_in o WorkTable = vec_capacity o.works - vec_len o.works
room_in o BreakTable = vec_capacity o.breaks - vec_len o.breaks
room_in o DayTable = vec_capacity o.days - vec_len o.days
room_in o OffTable = vec_capacity o.offs - vec_len o.offs
room_in o UnitTable = vec_capacity o.units - vec_len o.units
room_in o SiteTable = vec_capacity o.sites - vec_len o.sites
room_in o RoleTable = vec_capacity o.roles - vec_len o.roles
room_in o CharacteristicTable = vec_capacity o.characteristics - vec_len o.characteristics
room_in o TerritoryTable = vec_capacity o.territories - vec_len o.territories
room_in o ResourceTable = vec_capacity o.resources - vec_len o.resources
room_in o HasRoleTable = vec_capacity o.has_roles - vec_len o.has_roles
room_in o HasCharacteristicTable = vec_capacity o.has_characteristics - vec_len o.has_characteristics
room_in o HasTerritoryTable = vec_capacity o.has_territories - vec_len o.has_territories
room_in o MemberTable = vec_capacity o.members - vec_len o.members
room_in o GroupTable = vec_capacity o.groups - vec_len o.groups
room_in o BookingTable = vec_capacity o.bookings - vec_len o.bookings
room_in o CallerTable = vec_capacity o.callers - vec_len o.callers
room_in o BookingNumbers = 0

-- the table of each of these rows takes up so many rows without memory
abbrev pub HasRoom : OpenTables → ℕ → List AnyRow → Type 0
HasRoom o count rows = All (λ row. count ≤ room_in o (key_of row).table) rows
