-- What rows name that is not there.
use Rattle.std.specs.Prelude.{not, List, ◌++◌, map, find, Option}
use Rattle.desk_base.specs.declared.rows.tables.Tables.{Tables}
use Rattle.desk_base.specs.declared.rows.tables.Key.{Key}
use Rattle.desk_base.specs.declared.rows.groups.Leaf.{Leaf}
use Rattle.desk_base.specs.declared.rows.tables.Table.TheVariants.{Role, Characteristic, Territory, Unit, Resource}
use Rattle.desk_base.specs.rows.Keys.{id_key}
use Rattle.desk_base.specs.asked.Refusing.{is_there}

-- the first of the keys under which no row stands
abbrev pub missing : Tables → List Key → Option Key
missing t keys = find (λ k. not (is_there t k)) keys

-- the keys of the roles, characteristics and territories that a leaf demands
abbrev pub demand_keys : Leaf → List Key
demand_keys l = map (id_key Role) l.roles ++ map (λ c. id_key Characteristic c.0) l.characteristics ++ map (id_key Territory) l.territories

-- the keys of the units and resources that it lists
abbrev pub choice_keys : Leaf → List Key
choice_keys l = map (id_key Unit) l.units ++ map (id_key Resource) l.required ++ map (id_key Resource) l.restricted
