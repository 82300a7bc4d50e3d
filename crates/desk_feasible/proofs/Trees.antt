-- A group of well-formed tables has a tree.
use Rattle.std.proofs.Common.{◌≡◌, length, map, None, is_none, refl}
use Rattle.std.specs.Prelude.{Contains}
use Rattle.desk_base.specs.declared.rows.tables.Tables.{Tables}
use Rattle.desk_base.specs.declared.rows.groups.GroupRow.{GroupRow}
use Rattle.desk_base.specs.declared.rows.tables.AnyRow.TheVariants.{Group}
use Rattle.desk_base.specs.rows.Rows.{key_of}
use Rattle.desk_base.specs.rules.TreeRules.{tree_fault}
use Rattle.desk_base.specs.rules.Sound.{AreWellFormed}
use Rattle.desk_base.proofs.lists.Members.{in_mapped, contains_from_in, in_from_contains}
use Rattle.desk_base.proofs.lists.Tests.{and_right}
use Rattle.desk_base.proofs.meaning.Shapes.{none_from}

pub group_tree : (t : Tables) (g : GroupRow) → AreWellFormed t → Contains t.groups g → tree_fault g.nodes (length g.leaves) ≡ None
group_tree t g w c = none_from (tree_fault g.nodes (length g.leaves)) (and_right _ (is_none (tree_fault g.nodes (length g.leaves))) (w.field (key_of (Group g)) (Group g) (contains_from_in (map Group t.groups) (Group g) (in_mapped Group g t.groups (in_from_contains t.groups g c))) refl))
