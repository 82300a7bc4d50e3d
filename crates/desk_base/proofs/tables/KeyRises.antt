-- A change keeps the keys of each table rising.
use Rattle.std.proofs.Common.{◌≡◌, ℕ, Bool, List, [], ◌∷◌, map, refl, sym, ap, subst}
use Rattle.std.specs.Prelude.{filter}
use Rattle.std.specs.List.Sorted.{IsStrictlySortedBy}
use Rattle.desk_base.specs.rows.Types.{Tables, Table, Key, AnyRow}
use Rattle.desk_base.specs.declared.asked.acts.Change.{Change}
use Rattle.desk_base.specs.declared.rows.tables.Table.TheVariants.{Zone as ZoneTable, Calendar as CalendarTable, Work as WorkTable, Break as BreakTable, Day as DayTable, Off as OffTable, Unit as UnitTable, Site as SiteTable, Role as RoleTable, Characteristic as CharacteristicTable, Territory as TerritoryTable, Resource as ResourceTable, HasRole as HasRoleTable, HasCharacteristic as HasCharacteristicTable, HasTerritory as HasTerritoryTable, Member as MemberTable, Group as GroupTable, Booking as BookingTable, Caller as CallerTable, BookingNumbers}
use Rattle.desk_base.specs.declared.rows.tables.AnyRow.TheVariants.{Zone, Calendar, Work, Break, Day, Off, Unit, Site, Role, Characteristic, Territory, Resource, HasRole, HasCharacteristic, HasTerritory, Member, Group, Booking, Caller}
use Rattle.desk_base.specs.rows.Keys.{key_cmp}
use Rattle.desk_base.specs.rows.Rows.{key_of}
use Rattle.desk_base.specs.changes.Changes.{with_one, without_one, with_row, without_row, without_key, with_rows, without_keys, with_change}
use Rattle.desk_base.specs.rows.Lookups.{KeysRise, keys_by}
use Rattle.desk_base.specs.rows.Trial.{no_rows}
use Rattle.desk_base.proofs.tables.WithOne.{rises-filter, rises-with_one, rises-without_one}

-- ---- one list of rows

module _ {R : Type 0} (any : R → AnyRow) where
  abbrev key : R → Key
  key y = key_of (any y)

  keys_as : (xs : List R) → keys_by any xs ≡ map key xs
  keys_as [] = refl
  keys_as (x ∷ xs) = ap (λ l. key x ∷ l) (keys_as xs)

  to_keys : (xs : List R) → IsStrictlySortedBy key_cmp (keys_by any xs) → IsStrictlySortedBy key_cmp (map key xs)
  to_keys xs s = subst (IsStrictlySortedBy key_cmp) (keys_as xs) s

  from_keys : (xs : List R) → IsStrictlySortedBy key_cmp (map key xs) → IsStrictlySortedBy key_cmp (keys_by any xs)
  from_keys xs s = subst (IsStrictlySortedBy key_cmp) (sym (keys_as xs)) s

  pub rise-filter : (p : R → Bool) (xs : List R) → IsStrictlySortedBy key_cmp (keys_by any xs) → IsStrictlySortedBy key_cmp (keys_by any (filter p xs))
  rise-filter p xs s = from_keys (filter p xs) (rises-filter key p xs (to_keys xs s))

  pub rise-with_one : (x : R) (xs : List R) → IsStrictlySortedBy key_cmp (keys_by any xs) → IsStrictlySortedBy key_cmp (keys_by any (with_one key x xs))
  rise-with_one x xs s = from_keys (with_one key x xs) (rises-with_one key x xs (to_keys xs s))

  pub rise-without_one : (k : Key) (xs : List R) → IsStrictlySortedBy key_cmp (keys_by any xs) → IsStrictlySortedBy key_cmp (keys_by any (without_one key k xs))
  rise-without_one k xs s = from_keys (without_one key k xs) (rises-without_one key k xs (to_keys xs s))

-- ---- all tables

pub rise-with_row : (t : Tables) (row : AnyRow) → KeysRise t → KeysRise (with_row t row)
rise-with_row t (Zone x) h ZoneTable = rise-with_one Zone x t.zones (h ZoneTable)
rise-with_row t (Zone x) h table = h table
rise-with_row t (Calendar x) h CalendarTable = rise-with_one Calendar x t.calendars (h CalendarTable)
rise-with_row t (Calendar x) h table = h table
rise-with_row t (Work x) h WorkTable = rise-with_one Work x t.works (h WorkTable)
rise-with_row t (Work x) h table = h table
rise-with_row t (Break x) h BreakTable = rise-with_one Break x t.breaks (h BreakTable)
rise-with_row t (Break x) h table = h table
rise-with_row t (Day x) h DayTable = rise-with_one Day x t.days (h DayTable)
rise-with_row t (Day x) h table = h table
rise-with_row t (Off x) h OffTable = rise-with_one Off x t.offs (h OffTable)
rise-with_row t (Off x) h table = h table
rise-with_row t (Unit x) h UnitTable = rise-with_one Unit x t.units (h UnitTable)
rise-with_row t (Unit x) h table = h table
rise-with_row t (Site x) h SiteTable = rise-with_one Site x t.sites (h SiteTable)
rise-with_row t (Site x) h table = h table
rise-with_row t (Role x) h RoleTable = rise-with_one Role x t.roles (h RoleTable)
rise-with_row t (Role x) h table = h table
rise-with_row t (Characteristic x) h CharacteristicTable = rise-with_one Characteristic x t.characteristics (h CharacteristicTable)
rise-with_row t (Characteristic x) h table = h table
rise-with_row t (Territory x) h TerritoryTable = rise-with_one Territory x t.territories (h TerritoryTable)
rise-with_row t (Territory x) h table = h table
rise-with_row t (Resource x) h ResourceTable = rise-with_one Resource x t.resources (h ResourceTable)
rise-with_row t (Resource x) h table = h table
rise-with_row t (HasRole x) h HasRoleTable = rise-with_one HasRole x t.has_roles (h HasRoleTable)
rise-with_row t (HasRole x) h table = h table
rise-with_row t (HasCharacteristic x) h HasCharacteristicTable = rise-with_one HasCharacteristic x t.has_characteristics (h HasCharacteristicTable)
rise-with_row t (HasCharacteristic x) h table = h table
rise-with_row t (HasTerritory x) h HasTerritoryTable = rise-with_one HasTerritory x t.has_territories (h HasTerritoryTable)
rise-with_row t (HasTerritory x) h table = h table
rise-with_row t (Member x) h MemberTable = rise-with_one Member x t.members (h MemberTable)
rise-with_row t (Member x) h table = h table
rise-with_row t (Group x) h GroupTable = rise-with_one Group x t.groups (h GroupTable)
rise-with_row t (Group x) h table = h table
rise-with_row t (Booking x) h BookingTable = rise-with_one Booking x t.bookings (h BookingTable)
rise-with_row t (Booking x) h table = h table
rise-with_row t (Caller x) h CallerTable = rise-with_one Caller x t.callers (h CallerTable)
rise-with_row t (Caller x) h table = h table

pub rise-without_row : (t : Tables) (table : Table) (k : Key) → KeysRise t → KeysRise (without_row t table k)
rise-without_row t ZoneTable k h ZoneTable = rise-without_one Zone k t.zones (h ZoneTable)
rise-without_row t ZoneTable k h table = h table
rise-without_row t CalendarTable k h CalendarTable = rise-without_one Calendar k t.calendars (h CalendarTable)
rise-without_row t CalendarTable k h table = h table
rise-without_row t WorkTable k h WorkTable = rise-without_one Work k t.works (h WorkTable)
rise-without_row t WorkTable k h table = h table
rise-without_row t BreakTable k h BreakTable = rise-without_one Break k t.breaks (h BreakTable)
rise-without_row t BreakTable k h table = h table
rise-without_row t DayTable k h DayTable = rise-without_one Day k t.days (h DayTable)
rise-without_row t DayTable k h table = h table
rise-without_row t OffTable k h OffTable = rise-without_one Off k t.offs (h OffTable)
rise-without_row t OffTable k h table = h table
rise-without_row t UnitTable k h UnitTable = rise-without_one Unit k t.units (h UnitTable)
rise-without_row t UnitTable k h table = h table
rise-without_row t SiteTable k h SiteTable = rise-without_one Site k t.sites (h SiteTable)
rise-without_row t SiteTable k h table = h table
rise-without_row t RoleTable k h RoleTable = rise-without_one Role k t.roles (h RoleTable)
rise-without_row t RoleTable k h table = h table
rise-without_row t CharacteristicTable k h CharacteristicTable = rise-without_one Characteristic k t.characteristics (h CharacteristicTable)
rise-without_row t CharacteristicTable k h table = h table
rise-without_row t TerritoryTable k h TerritoryTable = rise-without_one Territory k t.territories (h TerritoryTable)
rise-without_row t TerritoryTable k h table = h table
rise-without_row t ResourceTable k h ResourceTable = rise-without_one Resource k t.resources (h ResourceTable)
rise-without_row t ResourceTable k h table = h table
rise-without_row t HasRoleTable k h HasRoleTable = rise-without_one HasRole k t.has_roles (h HasRoleTable)
rise-without_row t HasRoleTable k h table = h table
rise-without_row t HasCharacteristicTable k h HasCharacteristicTable = rise-without_one HasCharacteristic k t.has_characteristics (h HasCharacteristicTable)
rise-without_row t HasCharacteristicTable k h table = h table
rise-without_row t HasTerritoryTable k h HasTerritoryTable = rise-without_one HasTerritory k t.has_territories (h HasTerritoryTable)
rise-without_row t HasTerritoryTable k h table = h table
rise-without_row t MemberTable k h MemberTable = rise-without_one Member k t.members (h MemberTable)
rise-without_row t MemberTable k h table = h table
rise-without_row t GroupTable k h GroupTable = rise-without_one Group k t.groups (h GroupTable)
rise-without_row t GroupTable k h table = h table
rise-without_row t BookingTable k h BookingTable = rise-without_one Booking k t.bookings (h BookingTable)
rise-without_row t BookingTable k h table = h table
rise-without_row t CallerTable k h CallerTable = rise-without_one Caller k t.callers (h CallerTable)
rise-without_row t CallerTable k h table = h table
rise-without_row t BookingNumbers k h table = h table

pub rise-without_key : (t : Tables) (k : Key) → KeysRise t → KeysRise (without_key t k)
rise-without_key t k h = rise-without_row t k.table k h

pub rise-with_rows : (t : Tables) (rows : List AnyRow) → KeysRise t → KeysRise (with_rows t rows)
rise-with_rows t [] h = h
rise-with_rows t (row ∷ rows) h = rise-with_rows (with_row t row) rows (rise-with_row t row h)

pub rise-without_keys : (t : Tables) (keys : List Key) → KeysRise t → KeysRise (without_keys t keys)
rise-without_keys t [] h = h
rise-without_keys t (k ∷ keys) h = rise-without_keys (without_key t k) keys (rise-without_key t k h)

rise-counters : (t : Tables) (revision last : ℕ) → KeysRise t → KeysRise (record t { revision = revision; last_booking = last })
rise-counters t revision last h ZoneTable = h ZoneTable
rise-counters t revision last h CalendarTable = h CalendarTable
rise-counters t revision last h WorkTable = h WorkTable
rise-counters t revision last h BreakTable = h BreakTable
rise-counters t revision last h DayTable = h DayTable
rise-counters t revision last h OffTable = h OffTable
rise-counters t revision last h UnitTable = h UnitTable
rise-counters t revision last h SiteTable = h SiteTable
rise-counters t revision last h RoleTable = h RoleTable
rise-counters t revision last h CharacteristicTable = h CharacteristicTable
rise-counters t revision last h TerritoryTable = h TerritoryTable
rise-counters t revision last h ResourceTable = h ResourceTable
rise-counters t revision last h HasRoleTable = h HasRoleTable
rise-counters t revision last h HasCharacteristicTable = h HasCharacteristicTable
rise-counters t revision last h HasTerritoryTable = h HasTerritoryTable
rise-counters t revision last h MemberTable = h MemberTable
rise-counters t revision last h GroupTable = h GroupTable
rise-counters t revision last h BookingTable = h BookingTable
rise-counters t revision last h CallerTable = h CallerTable
rise-counters t revision last h BookingNumbers = h BookingNumbers

-- the tables with a change have rising keys, where the tables have
pub rise-with_change : (t : Tables) (c : Change) → KeysRise t → KeysRise (with_change t c)
unfolding with_change
rise-with_change t c h = rise-counters (with_rows (without_keys t c.removes) c.puts) c.revision c.last_booking (rise-with_rows (without_keys t c.removes) c.puts (rise-without_keys t c.removes h))

pub rise-no_rows : KeysRise no_rows
unfolding IsStrictlySortedBy
rise-no_rows ZoneTable = tt
rise-no_rows CalendarTable = tt
rise-no_rows WorkTable = tt
rise-no_rows BreakTable = tt
rise-no_rows DayTable = tt
rise-no_rows OffTable = tt
rise-no_rows UnitTable = tt
rise-no_rows SiteTable = tt
rise-no_rows RoleTable = tt
rise-no_rows CharacteristicTable = tt
rise-no_rows TerritoryTable = tt
rise-no_rows ResourceTable = tt
rise-no_rows HasRoleTable = tt
rise-no_rows HasCharacteristicTable = tt
rise-no_rows HasTerritoryTable = tt
rise-no_rows MemberTable = tt
rise-no_rows GroupTable = tt
rise-no_rows BookingTable = tt
rise-no_rows CallerTable = tt
rise-no_rows BookingNumbers = tt
