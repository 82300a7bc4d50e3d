-- Versions of kept rows, which differ in the leaves of groups: in the first none says its offset, in the second each does.
use Rattle.std.specs.Prelude.{ℕ, Bool, true, ◌&&◌, ◌==◌, List, codes, bytes_eq, Option, Some, None, is_some, is_none, Result, Ok, if◌then◌else◌}
use Rattle.serde_json.specs.Data.{Data, null, boolean, number, string, array, object, Items, no_items, item, Members, no_members, member}
use Rattle.serde_json.specs.Find.{get}
use Rattle.desk_base.specs.declared.rows.tables.Table.{Table}
use Rattle.desk_base.specs.declared.rows.tables.Table.TheVariants.{Group}
use Rattle.desk_base.specs.declared.rows.tables.Key.{Key}
use Rattle.desk_base.specs.declared.rows.tables.AnyRow.{AnyRow}
use Rattle.desk_base.specs.declared.asked.rules.Field.TheVariants as field
use Rattle.desk_json.specs.declared.faults.BodyError.{BodyError}
use Rattle.desk_json.specs.declared.faults.BodyRule.TheVariants.{Unknown}
use Rattle.desk_json.specs.Faults.{fault, ◌>>=◌}
use Rattle.desk_json.specs.Bodies.{parsed}
use Rattle.desk_kept.specs.Kept.{row_in}
use Rattle.desk_kept.specs.declared.versions.Version.{Version}
use Rattle.desk_kept.specs.declared.versions.Version.TheVariants.{First, Second}

-- the version of a number
abbrev pub version_of : ℕ → Option Version
version_of n = if n == 1 then Some First else if n == 2 then Some Second else None

-- a leaf has an offset exactly in the second version
abbrev pub has_offset_as : Version → Data → Bool
has_offset_as First leaf = is_none (get (codes "offset") leaf)
has_offset_as Second leaf = is_some (get (codes "offset") leaf)

-- so does what stands under the name of leaves, however deep
abbrev mutual
  pub leaves_are : Version → Data → Bool
  leaves_are v null = true
  leaves_are v (boolean b) = true
  leaves_are v (number n) = true
  leaves_are v (string s) = true
  leaves_are v (array ds) = items_are v ds
  leaves_are v (object ms) = members_are v ms

  pub items_are : Version → Items → Bool
  items_are v no_items = true
  items_are v (item d ds) = leaves_are v d && items_are v ds

  pub members_are : Version → Members → Bool
  members_are v no_members = true
  members_are v (member name d ms) = (if bytes_eq name (codes "leaf") then has_offset_as v d else leaves_are v d) && members_are v ms

-- the body of a group is of a version where its leaves are; the other tables have one form in both
abbrev pub is_of_version : Version → Table → Data → Bool
is_of_version v Group d = leaves_are v d
is_of_version v _ d = true

-- the row, where its body is of the version
abbrev pub with_version : Version → Table → Data → AnyRow → Result AnyRow BodyError
with_version v table d row = if is_of_version v table d then Ok row else fault Unknown field.Tree

-- the row that an object of a version gives under a key, or its first fault
unfoldable pub row_in_version : Version → Key → Data → Result AnyRow BodyError
row_in_version v key d = row_in key d >>= with_version v key.table d

-- the row that a text of a version gives under a key, or its first fault
unfoldable pub row_of_version : Version → Key → List ℕ → Result AnyRow BodyError
row_of_version v key text = parsed text >>= row_in_version v key
