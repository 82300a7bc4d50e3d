-- What is kept of a requirement group: its tree nests as in a body that puts it, and is made of nodes in preorder.
use Rattle.std.specs.Prelude.{ℕ, List, [], ◌∷◌, codes, nat_lt, if◌then◌else◌, Option, Some, None}
use Rattle.serde_json.specs.Data.{Data, null, string, object, no_members, member}
use Rattle.desk_base.specs.declared.rows.groups.GroupRow.{GroupRow}
use Rattle.desk_base.specs.declared.rows.groups.Leaf.{Leaf}
use Rattle.desk_base.specs.declared.rows.groups.Node.{Node}
use Rattle.desk_base.specs.declared.rows.groups.NodeKind.{NodeKind}
use Rattle.desk_base.specs.declared.rows.groups.Same.{Same}
use Rattle.desk_base.specs.declared.rows.groups.NodeKind.TheVariants.{All, Any, Leaf as LeafNode}
use Rattle.desk_base.specs.declared.rows.groups.Same.TheVariants as same
use Rattle.desk_json.specs.Values.{whole_number, list_of, moment_data}
use Rattle.desk_kept.specs.Leaves.{present, leaf_data}

-- ---- nodes

-- what resources are to have in common, where it is anything
abbrev pub same_data : Same → Option Data
same_data same.None = None
same_data same.Unit = Some (string (codes "unit"))
same_data same.Site = Some (string (codes "site"))
same_data same.Crew = Some (string (codes "crew"))

-- a node of children, under the name that says how many of them it needs
abbrev pub inner_data : List ℕ → List Data → Same → Data
inner_data name children shared = object (present ((name, Some (list_of children)) ∷ (codes "same", same_data shared) ∷ []))

-- the node of a leaf
abbrev pub outer_data : Data → Data
outer_data leaf = object (member (codes "leaf") leaf no_members)

-- a node of a kind
abbrev pub node_data : NodeKind → Same → List Data → Data → Data
node_data All shared children leaf = inner_data (codes "all") children shared
node_data Any shared children leaf = inner_data (codes "any") children shared
node_data LeafNode shared children leaf = outer_data leaf

-- ---- trees

-- what is kept of a tree that begins at a depth
pub record Placed : Type 0 where
  pub depth : ℕ
  pub data_of : Data

-- the trees that begin deeper than d, up to the first that does not
abbrev pub children : ℕ → List Placed → List Data
children d [] = []
children d (p ∷ ps) = if nat_lt d p.depth then p.data_of ∷ children d ps else []

-- what follows those trees
abbrev pub siblings_after : ℕ → List Placed → List Placed
siblings_after d [] = []
siblings_after d (p ∷ ps) = if nat_lt d p.depth then siblings_after d ps else p ∷ ps

-- the first of the leaves, or null where there is none
abbrev pub first_leaf : List Leaf → Data
first_leaf [] = null
first_leaf (l ∷ ls) = leaf_data l

-- a node takes the deeper trees that follow it as its children, or the first of the leaves
abbrev pub place : Node → List Leaf → List Placed → List Placed
place n leaves ps = record { depth = n.depth; data_of = node_data n.kind n.same (children n.depth ps) (first_leaf leaves) } ∷ siblings_after n.depth ps

-- the leaves without the first, where there is one
abbrev pub rest_of : List Leaf → List Leaf
rest_of [] = []
rest_of (l ∷ ls) = ls

-- the leaves that follow a node of a kind
abbrev pub leaves_after : NodeKind → List Leaf → List Leaf
leaves_after LeafNode leaves = rest_of leaves
leaves_after _ leaves = leaves

-- the trees of a list of nodes in preorder, with their leaves
abbrev pub trees_of : List Node → List Leaf → List Placed
trees_of [] leaves = []
trees_of (n ∷ ns) leaves = place n leaves (trees_of ns (leaves_after n.kind leaves))

-- the first of the trees, or null where there is none
abbrev pub first_tree : List Placed → Data
first_tree [] = null
first_tree (p ∷ ps) = p.data_of

-- the tree of all the nodes
abbrev pub tree_data : List Node → List Leaf → Data
tree_data nodes leaves = first_tree (trees_of nodes leaves)

-- ---- groups

abbrev pub group_data : GroupRow → Data
group_data g =
    object (member (codes "from") (moment_data g.from)
    (member (codes "id") (whole_number g.id)
    (member (codes "name") (string g.name)
    (member (codes "step") (whole_number g.step)
    (member (codes "to") (moment_data g.to)
    (member (codes "tree") (tree_data g.nodes g.leaves) no_members))))))
