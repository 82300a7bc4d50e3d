-- The tree rules of a group, node by node.
use Rattle.std.specs.Prelude.{ℕ, ◌+◌, Bool, true, false, not, ◌&&◌, ◌||◌, ◌==◌, nat_le, nat_lt, if◌then◌else◌, List, [], ◌∷◌, Option, Some, None}
use Rattle.desk_base.specs.rows.Types.{Node, Same}
use Rattle.desk_base.specs.declared.rows.groups.Same.TheVariants.{None as NoSame}
use Rattle.desk_base.specs.declared.asked.rules.TreeRule.{TreeRule}
use Rattle.desk_base.specs.declared.asked.rules.TreeRule.TheVariants.{Empty, Nodes, Order, Depth, Childless, Leaves}
use Rattle.desk_base.specs.rules.Rules.{first_broken}
use Rattle.desk_base.specs.rules.Limits.{node_limit, depth_limit, leaf_limit}
use Rattle.desk_base.specs.meaning.Trees.{is_leaf, leaf_bit}

-- a broken rule and its node
pub record TreeFault : Type 0 where
  pub rule : TreeRule
  pub node : ℕ

-- the node has a part-of-same
abbrev pub asks_same : Same → Bool
asks_same NoSame = false
asks_same _ = true

-- the first node has depth 0; a later one is at least at 1, at most one deeper than the one before, and deeper only than an inner node
abbrev pub is_in_order : Option Node → Node → Bool
is_in_order None n = n.depth == 0
is_in_order (Some before) n = nat_le 1 n.depth && nat_le n.depth (before.depth + 1) && (nat_le n.depth before.depth || not (is_leaf before.kind))

-- an inner node is followed by a deeper one
abbrev pub has_child : Node → List Node → Bool
has_child n [] = is_leaf n.kind
has_child n (m ∷ ms) = is_leaf n.kind || (m.depth == n.depth + 1)

-- the rules at the i-th node, which comes after `leaves` leaf nodes
abbrev pub node_rules : ℕ → ℕ → Option Node → Node → List Node → List (Bool × TreeRule)
node_rules i leaves before n ns =
    (nat_lt i node_limit, Nodes) ∷ (is_in_order before n && not (is_leaf n.kind && asks_same n.same), Order) ∷ (nat_le n.depth depth_limit, Depth)
    ∷ (has_child n ns, Childless) ∷ (not (is_leaf n.kind) || nat_lt leaves leaf_limit, Leaves) ∷ []

-- the rule at this node, or else a later fault
abbrev pub fault_or : Option TreeRule → ℕ → Option TreeFault → Option TreeFault
fault_or None i later = later
fault_or (Some rule) i later = Some (record { rule = rule; node = i })

-- the first fault of the nodes from the i-th on; last, the list of leaves has a leaf for each leaf node
abbrev pub node_fault : ℕ → ℕ → ℕ → Option Node → List Node → Option TreeFault
node_fault size i leaves before [] = if leaves == size then None else Some (record { rule = Leaves; node = i })
node_fault size i leaves before (n ∷ ns) = fault_or (first_broken (node_rules i leaves before n ns)) i (node_fault size (i + 1) (leaves + leaf_bit n) (Some n) ns)

-- the first broken tree rule of nodes and a number of leaves
abbrev pub tree_fault : List Node → ℕ → Option TreeFault
tree_fault [] size = Some (record { rule = Empty; node = 0 })
tree_fault (n ∷ ns) size = node_fault size 0 0 None (n ∷ ns)
