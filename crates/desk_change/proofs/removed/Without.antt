-- Tables without the row of a key: the other tables are as before, and its own has all rows but that one.
use Rattle.std.proofs.Common.{◌≡◌, ◌≢◌, ◌≤◌, List, ◌∷◌, ◌++◌, map, length, ◌⊎◌, inl, inr, refl, sym, ap, ◌∙◌, subst, arith, length-append}
use Rattle.std.proofs.lemmas.List.{map-append, length-map}
use Rattle.desk_base.specs.declared.rows.tables.Tables.{Tables}
use Rattle.desk_base.specs.declared.rows.tables.Table.{Table}
use Rattle.desk_base.specs.declared.rows.tables.Key.{Key}
use Rattle.desk_base.specs.declared.rows.tables.AnyRow.{AnyRow}
use Rattle.desk_base.specs.declared.rows.tables.Table.TheVariants.{Zone as ZoneTable, Calendar as CalendarTable, Work as WorkTable, Break as BreakTable, Day as DayTable, Off as OffTable, Unit as UnitTable, Site as SiteTable, Role as RoleTable, Characteristic as CharacteristicTable, Territory as TerritoryTable, Resource as ResourceTable, HasRole as HasRoleTable, HasCharacteristic as HasCharacteristicTable, HasTerritory as HasTerritoryTable, Member as MemberTable, Group as GroupTable, Booking as BookingTable, Caller as CallerTable, BookingNumbers}
use Rattle.desk_base.specs.declared.rows.tables.AnyRow.TheVariants.{Zone, Calendar, Work, Break, Day, Off, Unit, Site, Role, Characteristic, Territory, Resource, HasRole, HasCharacteristic, HasTerritory, Member, Group, Booking, Caller}
use Rattle.desk_base.specs.rows.Rows.{rows_in, key_of, keys_in}
use Rattle.desk_base.specs.changes.Changes.{is_below, rows_below, rows_above, with_one, without_one, without_row, without_key}
use Rattle.desk_base.proofs.lists.Members.{IsIn, in-map, in_mapped}
use Rattle.desk_base.proofs.tables.WithOne.{length_more, map-filter}
use Rattle.desk_base.proofs.tables.TakenRows.{in-without_one, in_without}

-- ---- one list of keys

-- without one they are no more
fewer_keys : (k : Key) (keys : List Key) → length (without_one (λ j. j) k keys) ≤ length keys
unfolding with_one without_one
fewer_keys k keys =
    let rest = length-append (rows_below (λ j. j) k keys) (rows_above (λ j. j) k keys) in
    let more = length-append (rows_below (λ j. j) k keys) (k ∷ rows_above (λ j. j) k keys) in
    let one = length_more (λ (j : Key). j) k keys in omega arith

-- ---- rows of one table among those of any

module _ {R A : Type 0} (key : A → Key) (con : R → A) where
  map-without_one : (k : Key) (rows : List R) → map con (without_one (λ y. key (con y)) k rows) ≡ without_one key k (map con rows)
  unfolding without_one
  map-without_one k rows =
      let below = map-filter key con (λ a. is_below (key a) k) rows in
      let above = map-filter key con (λ a. is_below k (key a)) rows in
      map-append con (rows_below (λ y. key (con y)) k rows) (rows_above (λ y. key (con y)) k rows) ∙ (λ i. below i ++ above i)

-- rows without one are no more
fewer_rows : (k : Key) (rows : List AnyRow) → length (without_one key_of k rows) ≤ length rows
fewer_rows k rows =
    let same = length-map (without_one key_of k rows) key_of in
    let keys = ap length (map-without_one (λ (j : Key). j) key_of k rows) in
    let all = length-map rows key_of in
    let fewer = fewer_keys k (map key_of rows) in omega arith

-- ---- all tables

-- the rows of the table of the key
own_rows : (t : Tables) (table : Table) (k : Key) → rows_in (without_row t table k) table ≡ without_one key_of k (rows_in t table)
unfolding without_one
own_rows t ZoneTable k = map-without_one key_of Zone k t.zones
own_rows t CalendarTable k = map-without_one key_of Calendar k t.calendars
own_rows t WorkTable k = map-without_one key_of Work k t.works
own_rows t BreakTable k = map-without_one key_of Break k t.breaks
own_rows t DayTable k = map-without_one key_of Day k t.days
own_rows t OffTable k = map-without_one key_of Off k t.offs
own_rows t UnitTable k = map-without_one key_of Unit k t.units
own_rows t SiteTable k = map-without_one key_of Site k t.sites
own_rows t RoleTable k = map-without_one key_of Role k t.roles
own_rows t CharacteristicTable k = map-without_one key_of Characteristic k t.characteristics
own_rows t TerritoryTable k = map-without_one key_of Territory k t.territories
own_rows t ResourceTable k = map-without_one key_of Resource k t.resources
own_rows t HasRoleTable k = map-without_one key_of HasRole k t.has_roles
own_rows t HasCharacteristicTable k = map-without_one key_of HasCharacteristic k t.has_characteristics
own_rows t HasTerritoryTable k = map-without_one key_of HasTerritory k t.has_territories
own_rows t MemberTable k = map-without_one key_of Member k t.members
own_rows t GroupTable k = map-without_one key_of Group k t.groups
own_rows t BookingTable k = map-without_one key_of Booking k t.bookings
own_rows t CallerTable k = map-without_one key_of Caller k t.callers
own_rows t BookingNumbers k = refl

-- a table is that one, or has the same rows
other_rows : (t : Tables) (own : Table) (k : Key) (table : Table) → (own ≡ table) ⊎ (rows_in (without_row t own k) table ≡ rows_in t table)
other_rows t ZoneTable k ZoneTable = inl refl
other_rows t ZoneTable k _ = inr refl
other_rows t CalendarTable k CalendarTable = inl refl
other_rows t CalendarTable k _ = inr refl
other_rows t WorkTable k WorkTable = inl refl
other_rows t WorkTable k _ = inr refl
other_rows t BreakTable k BreakTable = inl refl
other_rows t BreakTable k _ = inr refl
other_rows t DayTable k DayTable = inl refl
other_rows t DayTable k _ = inr refl
other_rows t OffTable k OffTable = inl refl
other_rows t OffTable k _ = inr refl
other_rows t UnitTable k UnitTable = inl refl
other_rows t UnitTable k _ = inr refl
other_rows t SiteTable k SiteTable = inl refl
other_rows t SiteTable k _ = inr refl
other_rows t RoleTable k RoleTable = inl refl
other_rows t RoleTable k _ = inr refl
other_rows t CharacteristicTable k CharacteristicTable = inl refl
other_rows t CharacteristicTable k _ = inr refl
other_rows t TerritoryTable k TerritoryTable = inl refl
other_rows t TerritoryTable k _ = inr refl
other_rows t ResourceTable k ResourceTable = inl refl
other_rows t ResourceTable k _ = inr refl
other_rows t HasRoleTable k HasRoleTable = inl refl
other_rows t HasRoleTable k _ = inr refl
other_rows t HasCharacteristicTable k HasCharacteristicTable = inl refl
other_rows t HasCharacteristicTable k _ = inr refl
other_rows t HasTerritoryTable k HasTerritoryTable = inl refl
other_rows t HasTerritoryTable k _ = inr refl
other_rows t MemberTable k MemberTable = inl refl
other_rows t MemberTable k _ = inr refl
other_rows t GroupTable k GroupTable = inl refl
other_rows t GroupTable k _ = inr refl
other_rows t BookingTable k BookingTable = inl refl
other_rows t BookingTable k _ = inr refl
other_rows t CallerTable k CallerTable = inl refl
other_rows t CallerTable k _ = inr refl
other_rows t BookingNumbers k table = inr refl

module _ (t : Tables) (k : Key) where
  -- the row of the key is gone from its table, or the table has the same rows
  rows_cases : (table : Table) → ((k.table ≡ table) × (rows_in (without_key t k) table ≡ without_one key_of k (rows_in t table))) ⊎ (rows_in (without_key t k) table ≡ rows_in t table)
  rows_cases table = elim (other_rows t k.table k table) [
    | inl e ↦ inl (e, subst (λ d. rows_in (without_key t k) d ≡ without_one key_of k (rows_in t d)) e (own_rows t k.table k))
    | inr e ↦ inr e
  ]

  -- each row was there
  pub row_was : (table : Table) (x : AnyRow) → IsIn x (rows_in (without_key t k) table) → IsIn x (rows_in t table)
  row_was table x i = elim (rows_cases table) [
    | inl e ↦ (in-without_one (λ y. y) k x (rows_in t table) (subst (IsIn x) e.1 i)).0
    | inr e ↦ subst (IsIn x) e i
  ]

  -- a row of another key stays
  pub row_stays : (table : Table) (x : AnyRow) → IsIn x (rows_in t table) → key_of x ≢ k → IsIn x (rows_in (without_key t k) table)
  row_stays table x i n = elim (rows_cases table) [
    | inl e ↦ subst (IsIn x) (sym e.1) (in_without (λ y. y) k x (rows_in t table) i n)
    | inr e ↦ subst (IsIn x) (sym e) i
  ]

  -- and so does its key
  pub key_stays : (table : Table) (c : Key) → IsIn c (keys_in t table) → c ≢ k → IsIn c (keys_in (without_key t k) table)
  key_stays table c i n =
      let h = in-map key_of c (rows_in t table) i in
      subst (λ d. IsIn d (keys_in (without_key t k) table)) (sym h.2) (in_mapped key_of h.0 (rows_in (without_key t k) table) (row_stays table h.0 h.1 (λ e. n (h.2 ∙ e))))

  -- no table has more rows
  pub rows_fewer : (table : Table) → length (rows_in (without_key t k) table) ≤ length (rows_in t table)
  rows_fewer table = elim (rows_cases table) [
    | inl e ↦ subst (λ l. length l ≤ length (rows_in t table)) (sym e.1) (fewer_rows k (rows_in t table))
    | inr e ↦ subst (λ l. length l ≤ length (rows_in t table)) (sym e) (omega arith)
  ]
