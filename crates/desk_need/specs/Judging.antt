-- Whether bits begin a pattern of a tree, by what its parts say of their own bits.
use Rattle.std.specs.Prelude.{ℕ, ◌≡◌, Bool, true, false, not, ◌&&◌, ◌||◌, ◌==◌, List, take, drop, length}
use Rattle.std.specs.List.{list_all}
use Rattle.desk_base.specs.declared.rows.groups.Node.{Node}
use Rattle.desk_base.specs.declared.rows.groups.NodeKind.{NodeKind}
use Rattle.desk_base.specs.declared.rows.groups.NodeKind.TheVariants.{All, Any, Leaf}
use Rattle.desk_base.specs.meaning.Trees.{Tree, Trees, leaf, all, any, none, tree_and, children, siblings_after, trees_of, tree_of, leaf_count, leaf_counts}
use Rattle.desk_need.specs.Bits.{may_begin, may_miss}

-- none of the first n bits is set
abbrev pub none_chosen : ℕ → List Bool → Bool
none_chosen n bits = list_all not (take n bits)

abbrev mutual
  -- the bits at the front begin a pattern of the tree
  pub begins : Tree → List Bool → Bool
  begins leaf bits = may_begin bits
  begins (all below) bits = all_begin below bits
  begins (any below) bits = one_begins below bits

  -- each tree begins one of its patterns
  pub all_begin : Trees → List Bool → Bool
  all_begin none bits = true
  all_begin (tree_and t ts) bits = begins t bits && all_begin ts (drop (leaf_count t) bits)

  -- one tree begins one of its patterns, and the leaves of the others are left out
  pub one_begins : Trees → List Bool → Bool
  one_begins none bits = false
  one_begins (tree_and t ts) bits = (begins t bits && none_chosen (leaf_counts ts) (drop (leaf_count t) bits)) || (none_chosen (leaf_count t) bits && one_begins ts (drop (leaf_count t) bits))

-- the same of a node of a kind, from what its children say
abbrev pub begins_by : NodeKind → Bool → Bool → List Bool → Bool
begins_by All each one bits = each
begins_by Any each one bits = one
begins_by Leaf each one bits = may_begin bits

-- the leaves of such a node are left out
abbrev pub none_by : NodeKind → Bool → List Bool → Bool
none_by All below bits = below
none_by Any below bits = below
none_by Leaf below bits = may_miss bits

-- the bits behind those of such a node
abbrev pub bits_by : NodeKind → List Bool → List Bool → List Bool
bits_by All rest bits = rest
bits_by Any rest bits = rest
bits_by Leaf rest bits = drop 1 bits

-- what is said of the trees at the front of the nodes that begin deeper than d, and the nodes and bits behind theirs
pub record Judges (d : ℕ) (nodes : List Node) (bits : List Bool) (each one nothing : Bool) (later : List Node) (rest : List Bool) : Type 0 where
  pub each_is : each ≡ all_begin (children d (trees_of nodes)) bits
  pub one_is : one ≡ one_begins (children d (trees_of nodes)) bits
  pub nothing_is : nothing ≡ none_chosen (leaf_counts (children d (trees_of nodes))) bits
  pub later_is : trees_of later ≡ siblings_after d (trees_of nodes)
  pub rest_is : rest ≡ drop (leaf_counts (children d (trees_of nodes))) bits

-- the bits begin a pattern of the tree of the nodes, and are no more than its leaves
abbrev pub begins_at : List Node → List Bool → Bool
begins_at nodes bits = begins (tree_of nodes) bits && (length (drop (leaf_count (tree_of nodes)) bits) == 0)
