-- The rows that name a key, table by table.
use Rattle.std.specs.Prelude.{List, [], ◌∷◌, find, flat_map, Option, Some, None, option_map, if◌then◌else◌}
use Rattle.std.specs.Option.{option_or}
use Rattle.std.specs.Ordering.{is_lt}
use Rattle.desk_base.specs.declared.rows.tables.Tables.{Tables}
use Rattle.desk_base.specs.declared.rows.tables.Table.{Table}
use Rattle.desk_base.specs.declared.rows.tables.Key.{Key}
use Rattle.desk_base.specs.declared.rows.tables.Table.TheVariants.{Zone, Calendar, Work, Break, Day, Off, Unit, Site, Role, Characteristic, Territory, Resource, HasRole, HasCharacteristic, HasTerritory, Member, Group, Booking}
use Rattle.desk_base.specs.rows.Keys.{key_cmp}
use Rattle.desk_base.specs.rows.Rows.{rows_in, key_of}
use Rattle.desk_base.specs.asked.Refusing.{all_tables, cites}

-- the first row of a table that names the key, by its own key
abbrev pub citing_in : Tables → Key → Table → Option Key
citing_in t k table = option_map key_of (find (cites k) (rows_in t table))

-- the first row of these tables that names it
abbrev pub citing_among : Tables → Key → List Table → Option Key
citing_among t k [] = None
citing_among t k (table ∷ others) = option_or (citing_in t k table) (citing_among t k others)

-- the first row of all tables that names it
abbrev pub citing_row : Tables → Key → Option Key
citing_row t k = option_map key_of (find (cites k) (flat_map (rows_in t) all_tables))

-- the tables whose rows may name rows of a table, but for groups
abbrev pub citers : Table → List Table
citers Zone = Calendar ∷ []
citers Calendar = Work ∷ Break ∷ Day ∷ Resource ∷ []
citers Unit = Resource ∷ Group ∷ []
citers Site = Resource ∷ []
citers Role = HasRole ∷ Group ∷ []
citers Characteristic = HasCharacteristic ∷ Group ∷ []
citers Territory = HasTerritory ∷ Group ∷ []
citers Resource = Off ∷ HasRole ∷ HasCharacteristic ∷ HasTerritory ∷ Member ∷ Group ∷ Booking ∷ []
citers _ = []

-- the lesser of two keys, or the one that there is
abbrev pub lesser : Option Key → Option Key → Option Key
lesser None other = other
lesser (Some j) None = Some j
lesser (Some j) (Some k) = if is_lt (key_cmp k j) then Some k else Some j
