-- What is kept of a leaf: a list only where it is not empty, and a window only where it has one.
use Rattle.std.specs.Prelude.{ℕ, List, [], ◌∷◌, ◌++◌, map, codes, Option, Some, None}
use Rattle.serde_json.specs.Data.{Data, object, Members, no_members, member, put}
use Rattle.desk_base.specs.declared.values.minutes.Window.{Window}
use Rattle.desk_base.specs.declared.rows.groups.Leaf.{Leaf}
use Rattle.desk_json.specs.Values.{whole_number, list_of, moment_data}
use Rattle.desk_kept.specs.Values.{kind_data, pair_data}

-- the members that are there, in the order of the names
abbrev pub present : List (List ℕ × Option Data) → Members
present [] = no_members
present ((name, Some d) ∷ entries) = member name d (present entries)
present ((name, None) ∷ entries) = present entries

-- a list that is not empty
abbrev pub filled : List Data → Option Data
filled [] = None
filled (d ∷ ds) = Some (list_of (d ∷ ds))

-- a characteristic, and the least rating that serves
abbrev pub rating_data : ℕ × ℕ → Data
rating_data c = pair_data (whole_number c.0) (whole_number c.1)

-- the moments at which a window begins and ends
abbrev pub window_data : Window → Data
window_data w = pair_data (moment_data w.from) (moment_data w.to)

-- a window, where there is one
abbrev pub own_window : Option Window → Option Data
own_window (Some w) = Some (window_data w)
own_window None = None

-- the members of a leaf, in the order of their names: from characteristics on
abbrev pub first_entries : Leaf → List (List ℕ × Option Data)
first_entries l =
    (codes "characteristics", filled (map rating_data l.characteristics)) ∷ (codes "duration", Some (whole_number l.duration))
    ∷ (codes "effort", Some (whole_number l.effort)) ∷ (codes "kinds", filled (map kind_data l.kinds)) ∷ []

-- from the offset on
abbrev pub middle_entries : Leaf → List (List ℕ × Option Data)
middle_entries l =
    (codes "offset", Some (whole_number l.offset)) ∷ (codes "required", filled (map whole_number l.required))
    ∷ (codes "restricted", filled (map whole_number l.restricted)) ∷ (codes "roles", filled (map whole_number l.roles)) ∷ []

-- from territories on
abbrev pub last_entries : Leaf → List (List ℕ × Option Data)
last_entries l =
    (codes "territories", filled (map whole_number l.territories)) ∷ (codes "units", filled (map whole_number l.units))
    ∷ (codes "window", own_window l.window) ∷ []

-- each list only where it is not empty, and the window only where there is one
abbrev pub leaf_data : Leaf → Data
leaf_data l = object (present (first_entries l ++ middle_entries l ++ last_entries l))

-- members, with a value under a name, where it is there
abbrev pub with_present : List ℕ → Option Data → Members → Members
with_present name (Some d) ms = put name d ms
with_present name None ms = ms

-- members, with each that is there
abbrev pub with_each : List (List ℕ × Option Data) → Members → Members
with_each [] ms = ms
with_each (e ∷ entries) ms = with_present e.0 e.1 (with_each entries ms)
