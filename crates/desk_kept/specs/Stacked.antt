-- The stack of trees that a tree is made of.
use Rattle.std.specs.Prelude.{ℕ, List, [], ◌∷◌, map, reverse, Bool, false, nat_lt}
use Rattle.serde_json.specs.View.{view}
use Rattle.desk_kept.specs.declared.groups.PlacedTree.{PlacedTree}
use Rattle.desk_kept.specs.Groups.{Placed}

-- a tree as its data
abbrev pub placed_in : PlacedTree → Placed
placed_in tree = record { depth = tree.depth; data_of = view tree.value }

-- the trees of a stack, whose first is the last of it
abbrev pub stacked : List PlacedTree → List Placed
stacked trees = reverse (map placed_in trees)

-- the first of the trees, if there is one, begins deeper than d
abbrev pub is_deeper : ℕ → List Placed → Bool
is_deeper d [] = false
is_deeper d (p ∷ ps) = nat_lt d p.depth
