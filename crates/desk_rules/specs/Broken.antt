-- Where a rule is broken in a table.
use Rattle.std.specs.Prelude.{⊤, Bool, true, not, List, [], ◌∷◌, map, find, Option, Some, None, option_map, is_none, if◌then◌else◌}
use Rattle.std.specs.List.{slice_get}
use Rattle.std.specs.Ordering.{is_lt}
use Rattle.desk_base.specs.declared.rows.tables.Tables.{Tables}
use Rattle.desk_base.specs.declared.rows.tables.Table.{Table}
use Rattle.desk_base.specs.declared.rows.tables.Key.{Key}
use Rattle.desk_base.specs.declared.rows.tables.AnyRow.{AnyRow}
use Rattle.desk_base.specs.declared.asked.rules.TableRule.{TableRule}
use Rattle.desk_base.specs.declared.asked.rules.TableRule.TheVariants.{Order, Limit, Field, Citation, Fits, Booked, Count}
use Rattle.desk_base.specs.declared.rows.tables.Table.TheVariants.{Zone, Calendar, Work, Break, Day, Off, Unit, Site, Role, Characteristic, Territory, Resource, HasRole, HasCharacteristic, HasTerritory, Member, Group, Booking, Caller}
use Rattle.desk_base.specs.rows.Keys.{key_cmp}
use Rattle.desk_base.specs.rows.Lookups.{KeysRise}
use Rattle.desk_base.specs.rows.Rows.{rows_in, key_of, citations_of}
use Rattle.desk_base.specs.rules.TableLimits.{limit_of}
use Rattle.desk_base.specs.rules.Sound.{keeps_fields}
use Rattle.desk_rules.specs.Missing.{missing}

-- each row that the row names is there
abbrev pub cites_there : Tables → AnyRow → Bool
cites_there t row = is_none (missing t (citations_of row))

-- the first of the rows that breaks a field rule or a tree rule, by its key
abbrev pub first_unkept : Tables → List AnyRow → Option Key
first_unkept t rows = option_map key_of (find (λ row. not (keeps_fields t row)) rows)

-- the first of the rows that names one that is not there, by its key
abbrev pub first_uncited : Tables → List AnyRow → Option Key
first_uncited t rows = option_map key_of (find (λ row. not (cites_there t row)) rows)

-- the key is above the one before it, if there is one
abbrev pub is_above : Option Key → Key → Bool
is_above None k = true
is_above (Some j) k = is_lt (key_cmp j k)

-- the lesser of two keys, where the first may be missing
abbrev pub lesser : Option Key → Key → Key
lesser None k = k
lesser (Some j) k = if is_lt (key_cmp k j) then k else j

-- with one more key: the least that is not above the one before it
abbrev pub least_with : Option Key → Option Key → Key → Option Key
least_with before least k = if is_above before k then least else Some (lesser least k)

-- the least of the keys that are not above the one before them, and of `least`, where `before` comes before them all
abbrev pub least_unordered : Option Key → Option Key → List Key → Option Key
least_unordered before least [] = least
least_unordered before least (k ∷ keys) = least_unordered (Some k) (least_with before least k) keys

-- what the rows of a table must keep before the rule is judged. Rules on all rows at once are not judged so
abbrev pub IsReady : TableRule → Tables → Type 0
IsReady Order t = ⊤
IsReady Limit t = ⊤
IsReady Field t = KeysRise t
IsReady Citation t = KeysRise t
IsReady Fits t = ⊥
IsReady Booked t = ⊥
IsReady Count t = ⊥

-- the least key of these rows of a table at which they break the rule
abbrev pub broken_among : TableRule → Tables → Table → List AnyRow → Option Key
broken_among Order t table rows = least_unordered None None (map key_of rows)
broken_among Limit t table rows = slice_get (map key_of rows) (limit_of table)
broken_among Field t table rows = first_unkept t rows
broken_among Citation t table rows = first_uncited t rows
broken_among Fits t table rows = None
broken_among Booked t table rows = None
broken_among Count t table rows = None

-- the least key of a table at which it breaks the rule
abbrev pub broken_in : TableRule → Tables → Table → Option Key
broken_in rule t table = broken_among rule t table (rows_in t table)

-- the tables that have rows, in the order of their numbers
abbrev pub all_tables : List Table
all_tables =
    Zone ∷ Calendar ∷ Work ∷ Break ∷ Day ∷ Off ∷ Unit ∷ Site ∷ Role ∷ Characteristic ∷ Territory ∷ Resource ∷ HasRole ∷ HasCharacteristic ∷ HasTerritory
    ∷ Member ∷ Group ∷ Booking ∷ Caller ∷ []

-- the first, or else the second
abbrev pub key_or : Option Key → Option Key → Option Key
key_or None later = later
key_or (Some k) later = Some k

-- the least key of the first of these tables that breaks the rule
abbrev pub first_broken : TableRule → Tables → List Table → Option Key
first_broken rule t [] = None
first_broken rule t (table ∷ tables) = key_or (broken_in rule t table) (first_broken rule t tables)
