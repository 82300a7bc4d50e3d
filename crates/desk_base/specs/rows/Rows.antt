-- The rows of any table: their keys, what they cite, and their field rules.
use Rattle.std.specs.Prelude.{List, [], ◌∷◌, ◌++◌, map, flat_map, option_to_list}
use Rattle.desk_base.specs.rows.Types.{Tables, Table, Key, AnyRow, Leaf}
use Rattle.desk_base.specs.declared.rows.tables.Table.TheVariants.{Zone as ZoneTable, Calendar as CalendarTable, Work as WorkTable, Break as BreakTable, Day as DayTable, Off as OffTable, Unit as UnitTable, Site as SiteTable, Role as RoleTable, Characteristic as CharacteristicTable, Territory as TerritoryTable, Resource as ResourceTable, HasRole as HasRoleTable, HasCharacteristic as HasCharacteristicTable, HasTerritory as HasTerritoryTable, Member as MemberTable, Group as GroupTable, Booking as BookingTable, Caller as CallerTable, BookingNumbers}
use Rattle.desk_base.specs.declared.rows.tables.AnyRow.TheVariants.{Zone, Calendar, Work, Break, Day, Off, Unit, Site, Role, Characteristic, Territory, Resource, HasRole, HasCharacteristic, HasTerritory, Member, Group, Booking, Caller}
use Rattle.desk_base.specs.rows.Keys.{id_key}
use Rattle.desk_base.specs.rules.Fields.{Rules, zone_rules, calendar_rules, work_rules, break_rules, day_rules, off_rules, named_rules, resource_rules, unrated_rules, rated_rules, member_rules, group_rules, booking_rules}

-- the rows of a table, in order. Booking numbers are no rows
abbrev pub rows_in : Tables → Table → List AnyRow
rows_in t ZoneTable = map Zone t.zones
rows_in t CalendarTable = map Calendar t.calendars
rows_in t WorkTable = map Work t.works
rows_in t BreakTable = map Break t.breaks
rows_in t DayTable = map Day t.days
rows_in t OffTable = map Off t.offs
rows_in t UnitTable = map Unit t.units
rows_in t SiteTable = map Site t.sites
rows_in t RoleTable = map Role t.roles
rows_in t CharacteristicTable = map Characteristic t.characteristics
rows_in t TerritoryTable = map Territory t.territories
rows_in t ResourceTable = map Resource t.resources
rows_in t HasRoleTable = map HasRole t.has_roles
rows_in t HasCharacteristicTable = map HasCharacteristic t.has_characteristics
rows_in t HasTerritoryTable = map HasTerritory t.has_territories
rows_in t MemberTable = map Member t.members
rows_in t GroupTable = map Group t.groups
rows_in t BookingTable = map Booking t.bookings
rows_in t CallerTable = map Caller t.callers
rows_in t BookingNumbers = []

-- the key of a row
abbrev pub key_of : AnyRow → Key
key_of (Zone x) = id_key ZoneTable x.id
key_of (Calendar x) = id_key CalendarTable x.id
key_of (Work x) = record { table = WorkTable; a = x.calendar; b = x.weekday; c = x.from }
key_of (Break x) = record { table = BreakTable; a = x.calendar; b = x.weekday; c = x.from }
key_of (Day x) = record { table = DayTable; a = x.calendar; b = x.day; c = x.from }
key_of (Off x) = record { table = OffTable; a = x.resource; b = x.from; c = 0 }
key_of (Unit x) = id_key UnitTable x.id
key_of (Site x) = id_key SiteTable x.id
key_of (Role x) = id_key RoleTable x.id
key_of (Characteristic x) = id_key CharacteristicTable x.id
key_of (Territory x) = id_key TerritoryTable x.id
key_of (Resource x) = id_key ResourceTable x.id
key_of (HasRole x) = record { table = HasRoleTable; a = x.resource; b = x.what; c = 0 }
key_of (HasCharacteristic x) = record { table = HasCharacteristicTable; a = x.resource; b = x.what; c = 0 }
key_of (HasTerritory x) = record { table = HasTerritoryTable; a = x.resource; b = x.what; c = 0 }
key_of (Member x) = record { table = MemberTable; a = x.group; b = x.member; c = x.from }
key_of (Group x) = id_key GroupTable x.id
key_of (Booking x) = id_key BookingTable x.id
key_of (Caller x) = id_key CallerTable x.caller

-- the keys of a table, in order
abbrev pub keys_in : Tables → Table → List Key
keys_in t table = map key_of (rows_in t table)

-- what a leaf lists
abbrev pub leaf_citations : Leaf → List Key
leaf_citations l =
    map (id_key RoleTable) l.roles ++ map (λ c. id_key CharacteristicTable c.0) l.characteristics ++ map (id_key TerritoryTable) l.territories
    ++ map (id_key UnitTable) l.units ++ map (id_key ResourceTable) l.required ++ map (id_key ResourceTable) l.restricted

-- the keys that a row names, field by field
abbrev pub citations_of : AnyRow → List Key
citations_of (Zone x) = []
citations_of (Calendar x) = id_key ZoneTable x.zone ∷ []
citations_of (Work x) = id_key CalendarTable x.calendar ∷ []
citations_of (Break x) = id_key CalendarTable x.calendar ∷ []
citations_of (Day x) = id_key CalendarTable x.calendar ∷ []
citations_of (Off x) = id_key ResourceTable x.resource ∷ []
citations_of (Unit x) = []
citations_of (Site x) = []
citations_of (Role x) = []
citations_of (Characteristic x) = []
citations_of (Territory x) = []
citations_of (Resource x) = map (id_key CalendarTable) (option_to_list x.calendar) ++ id_key UnitTable x.unit ∷ id_key SiteTable x.site ∷ []
citations_of (HasRole x) = id_key ResourceTable x.resource ∷ id_key RoleTable x.what ∷ []
citations_of (HasCharacteristic x) = id_key ResourceTable x.resource ∷ id_key CharacteristicTable x.what ∷ []
citations_of (HasTerritory x) = id_key ResourceTable x.resource ∷ id_key TerritoryTable x.what ∷ []
citations_of (Member x) = id_key ResourceTable x.group ∷ id_key ResourceTable x.member ∷ []
citations_of (Group x) = flat_map leaf_citations x.leaves
citations_of (Booking x) = id_key GroupTable x.group ∷ id_key ResourceTable x.resource ∷ []
citations_of (Caller x) = []

-- the field rules of a row
abbrev pub rules_of : Tables → AnyRow → Rules
rules_of t (Zone x) = zone_rules x
rules_of t (Calendar x) = calendar_rules x
rules_of t (Work x) = work_rules t x
rules_of t (Break x) = break_rules x
rules_of t (Day x) = day_rules t x
rules_of t (Off x) = off_rules x
rules_of t (Unit x) = named_rules x
rules_of t (Site x) = named_rules x
rules_of t (Role x) = named_rules x
rules_of t (Characteristic x) = named_rules x
rules_of t (Territory x) = named_rules x
rules_of t (Resource x) = resource_rules t x
rules_of t (HasRole x) = unrated_rules x
rules_of t (HasCharacteristic x) = rated_rules x
rules_of t (HasTerritory x) = unrated_rules x
rules_of t (Member x) = member_rules t x
rules_of t (Group x) = group_rules x
rules_of t (Booking x) = booking_rules x
rules_of t (Caller x) = []
