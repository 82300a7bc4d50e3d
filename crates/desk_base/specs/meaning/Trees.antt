-- A group's tree, and which of its leaves may be chosen together.
use Rattle.std.specs.Prelude.{if◌then◌else◌, ℕ, ◌+◌, Bool, false, true, nat_lt, List, [], ◌∷◌, ◌++◌, map, replicate, flat_map}
use Rattle.desk_base.specs.rows.Types.{Node, NodeKind}
use Rattle.desk_base.specs.declared.rows.groups.NodeKind.TheVariants.{All, Any, Leaf}

mutual
  -- a leaf, or a node over trees, of which an All node needs each and an Any node one
  pub data Tree : Type 0 where
    leaf : Tree
    all : Trees → Tree
    any : Trees → Tree

  -- trees beside one another
  pub data Trees : Type 0 where
    none : Trees
    tree_and : Tree → Trees → Trees

-- a tree that begins at a depth
pub record PlacedTree : Type 0 where
  pub depth : ℕ
  pub tree : Tree

-- the trees that begin deeper than d, up to the first that does not
abbrev pub children : ℕ → List PlacedTree → Trees
children d [] = none
children d (p ∷ ps) = if nat_lt d p.depth then tree_and p.tree (children d ps) else none

-- what follows those trees
abbrev pub siblings_after : ℕ → List PlacedTree → List PlacedTree
siblings_after d [] = []
siblings_after d (p ∷ ps) = if nat_lt d p.depth then siblings_after d ps else p ∷ ps

-- the tree of a node with these children
abbrev pub tree_by : NodeKind → Trees → Tree
tree_by All below = all below
tree_by Any below = any below
tree_by Leaf below = leaf

-- a node takes the deeper trees that follow it as its children
abbrev pub place : Node → List PlacedTree → List PlacedTree
place n ps = record { depth = n.depth; tree = tree_by n.kind (children n.depth ps) } ∷ siblings_after n.depth ps

-- the trees of a list of nodes in preorder
abbrev pub trees_of : List Node → List PlacedTree
trees_of [] = []
trees_of (n ∷ ns) = place n (trees_of ns)

-- the tree of all the nodes. No node at all is an All node with no child
abbrev pub tree_of_placed : List PlacedTree → Tree
tree_of_placed [] = all none
tree_of_placed (p ∷ ps) = p.tree

-- the group's tree
abbrev pub tree_of : List Node → Tree
tree_of ns = tree_of_placed (trees_of ns)

-- it is a leaf node
abbrev pub is_leaf : NodeKind → Bool
is_leaf Leaf = true
is_leaf _ = false

-- 1 for a leaf node, and 0 for another
abbrev pub leaf_bit : Node → ℕ
leaf_bit n = if is_leaf n.kind then 1 else 0

abbrev mutual
  -- how many leaves a tree has
  pub leaf_count : Tree → ℕ
  leaf_count leaf = 1
  leaf_count (all below) = leaf_counts below
  leaf_count (any below) = leaf_counts below

  -- how many leaves trees have together
  pub leaf_counts : Trees → ℕ
  leaf_counts none = 0
  leaf_counts (tree_and t ts) = leaf_count t + leaf_counts ts

-- each list of the first, joined with each of the second
abbrev pub concatenations : List (List Bool) → List (List Bool) → List (List Bool)
concatenations ps qs = flat_map (λ p. map (λ q. p ++ q) qs) ps

abbrev mutual
  -- for each leaf whether it is chosen
  pub patterns : Tree → List (List Bool)
  patterns leaf = (true ∷ []) ∷ []
  patterns (all below) = all_patterns below
  patterns (any below) = any_patterns below

  -- a list of each tree, joined
  pub all_patterns : Trees → List (List Bool)
  all_patterns none = [] ∷ []
  all_patterns (tree_and t ts) = concatenations (patterns t) (all_patterns ts)

  -- a list of one tree, with the leaves of the others left out
  pub any_patterns : Trees → List (List Bool)
  any_patterns none = []
  any_patterns (tree_and t ts) = map (λ p. p ++ replicate (leaf_counts ts) false) (patterns t) ++ map (λ p. replicate (leaf_count t) false ++ p) (any_patterns ts)
