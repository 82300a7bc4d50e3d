-- Rows that are found by their keys.
use Rattle.std.specs.Prelude.{ℕ, suc, ◌≡◌, ◌<◌, ◌≤◌, true, false, List, map, take, drop, length}
use Rattle.std.specs.List.{list_any}
use Rattle.std.specs.List.Sorted.{IsStrictlySortedBy}
use Rattle.desk_base.specs.rows.Types.{Tables, Table, Key, AnyRow, NamedRow, HasRow}
use Rattle.desk_base.specs.declared.rows.tables.Table.TheVariants.{Site as SiteTable, Role as RoleTable, Characteristic as CharacteristicTable, Territory as TerritoryTable, HasCharacteristic as HasCharacteristicTable, HasTerritory as HasTerritoryTable}
use Rattle.desk_base.specs.declared.rows.tables.AnyRow.TheVariants.{Unit, Site, Role, Characteristic, Territory, HasRole, HasCharacteristic, HasTerritory}
use Rattle.desk_base.specs.rows.Keys.{key_cmp}
use Rattle.desk_base.specs.rows.Rows.{key_of, keys_in}
use Rattle.desk_base.specs.asked.Refusing.{is_key}
use Rattle.desk_base.specs.changes.Changes.{rows_below, rows_above}

-- in each table the keys rise strictly
abbrev pub KeysRise : Tables → Type 0
KeysRise t = (table : Table) → IsStrictlySortedBy key_cmp (keys_in t table)

-- a named row as one of this table: of units, where the table holds none
abbrev pub named_in : Table → NamedRow → AnyRow
named_in SiteTable x = Site x
named_in RoleTable x = Role x
named_in CharacteristicTable x = Characteristic x
named_in TerritoryTable x = Territory x
named_in _ x = Unit x

-- what a resource has, as a row of this table: of roles, where the table holds none
abbrev pub has_in : Table → HasRow → AnyRow
has_in HasCharacteristicTable x = HasCharacteristic x
has_in HasTerritoryTable x = HasTerritory x
has_in _ x = HasRole x

-- the keys of rows, each of which is a row of some table
abbrev pub keys_by : {R : Type 0} → (R → AnyRow) → List R → List Key
keys_by any rows = map key_of (map any rows)

-- the row at this place has the key, the rows before it have smaller keys, and those after it greater ones
pub record StandsAt {R : Type 0} (any : R → AnyRow) (k : Key) (rows : List R) (at : ℕ) : Type 0 where
  pub in_range : at < length rows
  pub before : take at rows ≡ rows_below (λ y. key_of (any y)) k rows
  pub after : drop (suc at) rows ≡ rows_above (λ y. key_of (any y)) k rows
  pub there : list_any (is_key k) (keys_by any rows) ≡ true

-- no row has the key, the rows before this place have smaller keys, and those from it on greater ones
pub record BelongsAt {R : Type 0} (any : R → AnyRow) (k : Key) (rows : List R) (at : ℕ) : Type 0 where
  pub in_range : at ≤ length rows
  pub before : take at rows ≡ rows_below (λ y. key_of (any y)) k rows
  pub after : drop at rows ≡ rows_above (λ y. key_of (any y)) k rows
  pub absent : list_any (is_key k) (keys_by any rows) ≡ false
