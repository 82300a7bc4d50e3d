-- Tables with a row: its own table has one more, and the other tables are as before.
use Rattle.std.proofs.Common.{◌≡◌, map, ◌⊎◌, inl, inr, refl, sym, subst}
use Rattle.desk_base.specs.rows.Types.{Tables, Table, Key, AnyRow}
use Rattle.desk_base.specs.declared.rows.tables.Table.TheVariants.{Zone as ZoneTable, Calendar as CalendarTable, Work as WorkTable, Break as BreakTable, Day as DayTable, Off as OffTable, Unit as UnitTable, Site as SiteTable, Role as RoleTable, Characteristic as CharacteristicTable, Territory as TerritoryTable, Resource as ResourceTable, HasRole as HasRoleTable, HasCharacteristic as HasCharacteristicTable, HasTerritory as HasTerritoryTable, Member as MemberTable, Group as GroupTable, Booking as BookingTable, Caller as CallerTable}
use Rattle.desk_base.specs.declared.rows.tables.AnyRow.TheVariants.{Zone, Calendar, Work, Break, Day, Off, Unit, Site, Role, Characteristic, Territory, Resource, HasRole, HasCharacteristic, HasTerritory, Member, Group, Booking, Caller}
use Rattle.std.specs.List.Sorted.{IsStrictlySortedBy}
use Rattle.desk_base.specs.rows.Keys.{key_cmp}
use Rattle.desk_base.specs.rows.Rows.{rows_in, key_of, keys_in}
use Rattle.desk_base.specs.changes.Changes.{with_one, with_row}
use Rattle.desk_base.proofs.lists.Members.{IsIn}
use Rattle.desk_base.proofs.tables.WithOne.{in-with_one, in_new, key_kept, rises-with_one, map-with_one}

-- the rows of the table of the row that is put
pub own_rows : (t : Tables) (row : AnyRow) → rows_in (with_row t row) (key_of row).table ≡ with_one key_of row (rows_in t (key_of row).table)
own_rows t (Zone x) = map-with_one key_of Zone x t.zones
own_rows t (Calendar x) = map-with_one key_of Calendar x t.calendars
own_rows t (Work x) = map-with_one key_of Work x t.works
own_rows t (Break x) = map-with_one key_of Break x t.breaks
own_rows t (Day x) = map-with_one key_of Day x t.days
own_rows t (Off x) = map-with_one key_of Off x t.offs
own_rows t (Unit x) = map-with_one key_of Unit x t.units
own_rows t (Site x) = map-with_one key_of Site x t.sites
own_rows t (Role x) = map-with_one key_of Role x t.roles
own_rows t (Characteristic x) = map-with_one key_of Characteristic x t.characteristics
own_rows t (Territory x) = map-with_one key_of Territory x t.territories
own_rows t (Resource x) = map-with_one key_of Resource x t.resources
own_rows t (HasRole x) = map-with_one key_of HasRole x t.has_roles
own_rows t (HasCharacteristic x) = map-with_one key_of HasCharacteristic x t.has_characteristics
own_rows t (HasTerritory x) = map-with_one key_of HasTerritory x t.has_territories
own_rows t (Member x) = map-with_one key_of Member x t.members
own_rows t (Group x) = map-with_one key_of Group x t.groups
own_rows t (Booking x) = map-with_one key_of Booking x t.bookings
own_rows t (Caller x) = map-with_one key_of Caller x t.callers

-- a table is the row's own, or has the same rows
pub other_rows : (t : Tables) (row : AnyRow) (table : Table) → ((key_of row).table ≡ table) ⊎ (rows_in (with_row t row) table ≡ rows_in t table)
other_rows t (Zone x) ZoneTable = inl refl
other_rows t (Zone x) _ = inr refl
other_rows t (Calendar x) CalendarTable = inl refl
other_rows t (Calendar x) _ = inr refl
other_rows t (Work x) WorkTable = inl refl
other_rows t (Work x) _ = inr refl
other_rows t (Break x) BreakTable = inl refl
other_rows t (Break x) _ = inr refl
other_rows t (Day x) DayTable = inl refl
other_rows t (Day x) _ = inr refl
other_rows t (Off x) OffTable = inl refl
other_rows t (Off x) _ = inr refl
other_rows t (Unit x) UnitTable = inl refl
other_rows t (Unit x) _ = inr refl
other_rows t (Site x) SiteTable = inl refl
other_rows t (Site x) _ = inr refl
other_rows t (Role x) RoleTable = inl refl
other_rows t (Role x) _ = inr refl
other_rows t (Characteristic x) CharacteristicTable = inl refl
other_rows t (Characteristic x) _ = inr refl
other_rows t (Territory x) TerritoryTable = inl refl
other_rows t (Territory x) _ = inr refl
other_rows t (Resource x) ResourceTable = inl refl
other_rows t (Resource x) _ = inr refl
other_rows t (HasRole x) HasRoleTable = inl refl
other_rows t (HasRole x) _ = inr refl
other_rows t (HasCharacteristic x) HasCharacteristicTable = inl refl
other_rows t (HasCharacteristic x) _ = inr refl
other_rows t (HasTerritory x) HasTerritoryTable = inl refl
other_rows t (HasTerritory x) _ = inr refl
other_rows t (Member x) MemberTable = inl refl
other_rows t (Member x) _ = inr refl
other_rows t (Group x) GroupTable = inl refl
other_rows t (Group x) _ = inr refl
other_rows t (Booking x) BookingTable = inl refl
other_rows t (Booking x) _ = inr refl
other_rows t (Caller x) CallerTable = inl refl
other_rows t (Caller x) _ = inr refl

-- one more row in its table, or the same rows
pub rows_cases : (t : Tables) (row : AnyRow) (table : Table)
    → (((key_of row).table ≡ table) × (rows_in (with_row t row) table ≡ with_one key_of row (rows_in t table))) ⊎ (rows_in (with_row t row) table ≡ rows_in t table)
rows_cases t row table = elim (other_rows t row table) [
  | inl e ↦ inl (e, subst (λ d. rows_in (with_row t row) d ≡ with_one key_of row (rows_in t d)) e (own_rows t row))
  | inr e ↦ inr e
]

-- each row is the one that was put, or was there
pub in_put : (t : Tables) (row : AnyRow) (table : Table) (x : AnyRow) → IsIn x (rows_in (with_row t row) table) → (x ≡ row) ⊎ IsIn x (rows_in t table)
in_put t row table x i = elim (rows_cases t row table) [
  | inl e ↦ elim (in-with_one key_of row x (rows_in t table) (subst (IsIn x) e.1 i)) [ inl f ↦ inl f | inr f ↦ inr f.0 ]
  | inr e ↦ inr (subst (IsIn x) e i)
]

-- no key is lost
pub key_stays : (t : Tables) (row : AnyRow) (table : Table) (k : Key) → IsIn k (keys_in t table) → IsIn k (keys_in (with_row t row) table)
key_stays t row table k i = elim (rows_cases t row table) [
  | inl e ↦ subst (λ l. IsIn k (map key_of l)) (sym e.1) (key_kept key_of row k (rows_in t table) i)
  | inr e ↦ subst (λ l. IsIn k (map key_of l)) (sym e) i
]

-- the row is there
pub row_is_there : (t : Tables) (row : AnyRow) → IsIn row (rows_in (with_row t row) (key_of row).table)
row_is_there t row = subst (IsIn row) (sym (own_rows t row)) (in_new key_of row (rows_in t (key_of row).table))

-- where the keys of each table rise, they do so with a row
pub keys_rise_put : (t : Tables) (row : AnyRow) → ((table : Table) → IsStrictlySortedBy key_cmp (keys_in t table)) → (table : Table) → IsStrictlySortedBy key_cmp (keys_in (with_row t row) table)
keys_rise_put t row rise table = elim (rows_cases t row table) [
  | inl e ↦ subst (λ l. IsStrictlySortedBy key_cmp (map key_of l)) (sym e.1) (rises-with_one key_of row (rows_in t table) (rise table))
  | inr e ↦ subst (λ l. IsStrictlySortedBy key_cmp (map key_of l)) (sym e) (rise table)
]
