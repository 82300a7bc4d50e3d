-- A part-of-same within another: All of the same unit of a leaf, and All of the same site of two leaves.
use Rattle.std.proofs.Common.{◌≡◌, refl, List, [], ◌∷◌, Some, None}
use Rattle.desk_base.specs.rows.Types.{Tables, Node, Leaf as LeafFields}
use Rattle.desk_base.specs.declared.rows.groups.NodeKind.TheVariants.{All, Leaf}
use Rattle.desk_base.specs.declared.rows.groups.Same.TheVariants.{Unit as SameUnit, Site as SameSite}
use Rattle.desk_base.specs.meaning.Picks.{keeps_same, first_broken_same}
use Rattle.desk_base.specs.rows.Trial.{trial, plain_leaf}
use Rattle.desk_base.proofs.worked.Parts.{plain_resource, node}

-- resource 2 stands at another site, and resource 3 in another unit
abbrev two_sites : Tables
two_sites = record trial { resources = plain_resource 1 1 ∷ record (plain_resource 2 1) { site = 2 } ∷ record (plain_resource 3 1) { unit = 2 } ∷ [] }

abbrev three_leaves : List LeafFields
three_leaves = plain_leaf ∷ plain_leaf ∷ plain_leaf ∷ []

abbrev nested : List Node
nested = record (node 0 All) { same = SameUnit } ∷ node 1 Leaf ∷ record (node 1 All) { same = SameSite } ∷ node 2 Leaf ∷ node 2 Leaf ∷ []

-- the inner node is the third in preorder
inner_is_broken : first_broken_same two_sites 0 nested three_leaves (Some 1 ∷ Some 1 ∷ Some 2 ∷ []) ≡ Some 2
unfolding keeps_same
inner_is_broken = refl

-- the outer node sees the leaves under the inner one too, and a leaf that is left out binds nothing
outer_is_broken : first_broken_same two_sites 0 nested three_leaves (Some 1 ∷ None ∷ Some 3 ∷ []) ≡ Some 0
unfolding keeps_same
outer_is_broken = refl

-- picks of the first leaves alone bind no more than these
none_is_broken : first_broken_same two_sites 0 nested three_leaves (Some 1 ∷ Some 2 ∷ []) ≡ None
unfolding keeps_same
none_is_broken = refl
