-- What holds of the tree of nodes that break no rule: whatever a node has where the trees below it have it.
use Rattle.std.proofs.Common.{◌≡◌, ℕ, ◌+◌, Bool, true, false, cond, ◌||◌, ◌==◌, List, [], ◌∷◌, length, Option, Some, None, refl, ap, arith, nat_lt, is_none}
use Rattle.std.proofs.lemmas.Bool.{false≢true}
use Rattle.std.proofs.lemmas.Bool.Decides.{nat_tests}
use Rattle.std.specs.Prelude.{Contains}
use Rattle.desk_base.specs.rows.Types.{Tables, GroupRow, Node, NodeKind}
use Rattle.desk_base.specs.rules.Rules.{first_broken}
use Rattle.desk_base.specs.rules.Fields.{group_rules}
use Rattle.desk_base.specs.meaning.Trees.{Tree, Trees, none, tree_and, PlacedTree, children, siblings_after, tree_by, trees_of, tree_of, is_leaf, leaf_bit}
use Rattle.desk_base.specs.rules.TreeRules.{node_rules, node_fault, tree_fault, has_child}
use Rattle.desk_base.specs.rules.Sound.{AreWellFormed}
use Rattle.desk_base.proofs.lists.Tests.{and_right}
use Rattle.desk_base.proofs.tables.Sounds.{group_keeps}
use Rattle.desk_base.proofs.meaning.Shapes.{fault_none, rules_kept, none_from}

-- ---- inner nodes have children

abbrev AreParents : List Node → Type 0
AreParents [] = Unit {0}
AreParents (n ∷ ns) = (has_child n ns ≡ true) × AreParents ns

parents_from : (size i leaves : ℕ) (before : Option Node) (ns : List Node) → node_fault size i leaves before ns ≡ None → AreParents ns
parents_from size i leaves before [] e = tt
parents_from size i leaves before (n ∷ ns) e =
    let f = fault_none (first_broken (node_rules i leaves before n ns)) i (node_fault size (i + 1) (leaves + leaf_bit n) (Some n) ns) e in
    let k = rules_kept (node_rules i leaves before n ns) f.0 in
    (k.1.1.1.0, parents_from size (i + 1) (leaves + leaf_bit n) (Some n) ns f.1)

-- some tree is there
abbrev pub has_trees : Trees → Bool
has_trees none = false
has_trees (tree_and t ts) = true

deeper : (b : Bool) (d m : ℕ) (t : Tree) (ts : Trees) → (b || (m == d + 1)) ≡ true → (b || has_trees (cond (nat_lt d m) (tree_and t ts) none)) ≡ true
deeper true d m t ts e = refl
deeper false d m t ts e = let l : nat_lt d m ≡ true = grind (arith, nat_tests) in ap (λ c. has_trees (cond c (tree_and t ts) none)) l

or_false : (b : Bool) → b ≡ true → (b || false) ≡ true
or_false true e = refl
or_false false e = e

-- what comes after an inner node begins with a child of it
has_some : (n : Node) (ns : List Node) → has_child n ns ≡ true → (is_leaf n.kind || has_trees (children n.depth (trees_of ns))) ≡ true
has_some n [] e = or_false (is_leaf n.kind) e
has_some n (m ∷ ms) e = deeper (is_leaf n.kind) n.depth m.depth (tree_by m.kind (children m.depth (trees_of ms))) (children n.depth (siblings_after m.depth (trees_of ms))) e

-- each of the trees has it
abbrev pub AllTrees : (Tree → Type 0) → Trees → Type 0
AllTrees P none = Unit {0}
AllTrees P (tree_and t ts) = P t × AllTrees P ts

-- a node has it where the trees below it have it
abbrev pub IsOfNodes : (Tree → Type 0) → Type 0
IsOfNodes P = (k : NodeKind) (ts : Trees) → AllTrees P ts → (is_leaf k || has_trees ts) ≡ true → P (tree_by k ts)

module _ (P : Tree → Type 0) (by_kind : IsOfNodes P) where
  abbrev AllPlaced : List PlacedTree → Type 0
  AllPlaced [] = Unit {0}
  AllPlaced (p ∷ ps) = P p.tree × AllPlaced ps

  children_step : (b : Bool) (p : PlacedTree) (ts : Trees) → P p.tree → AllTrees P ts → AllTrees P (cond b (tree_and p.tree ts) none)
  children_step true p ts a h = (a, h)
  children_step false p ts a h = tt

  of_children : (d : ℕ) (ps : List PlacedTree) → AllPlaced ps → AllTrees P (children d ps)
  of_children d [] h = tt
  of_children d (p ∷ ps) h = children_step (nat_lt d p.depth) p (children d ps) h.0 (of_children d ps h.1)

  beside_step : (b : Bool) (p : PlacedTree) (ps rest : List PlacedTree) → AllPlaced (p ∷ ps) → AllPlaced rest → AllPlaced (cond b rest (p ∷ ps))
  beside_step true p ps rest h k = k
  beside_step false p ps rest h k = h

  of_siblings : (d : ℕ) (ps : List PlacedTree) → AllPlaced ps → AllPlaced (siblings_after d ps)
  of_siblings d [] h = tt
  of_siblings d (p ∷ ps) h = beside_step (nat_lt d p.depth) p ps (siblings_after d ps) h (of_siblings d ps h.1)

  placed : (ns : List Node) → AreParents ns → AllPlaced (trees_of ns)
  placed [] h = tt
  placed (n ∷ ns) h =
      let rest = placed ns h.1 in
      (by_kind n.kind (children n.depth (trees_of ns)) (of_children n.depth (trees_of ns) rest) (has_some n ns h.0), of_siblings n.depth (trees_of ns) rest)

  pub from_rules : (nodes : List Node) (size : ℕ) → tree_fault nodes size ≡ None → P (tree_of nodes)
  from_rules [] size e = absurd (false≢true (ap is_none e))
  from_rules (n ∷ ns) size e = (placed (n ∷ ns) (parents_from size 0 0 None (n ∷ ns) e)).0

  -- so the tree of a group of well-formed tables has it
  pub group_tree_has : (t : Tables) (g : GroupRow) → AreWellFormed t → Contains t.groups g → P (tree_of g.nodes)
  group_tree_has t g s c = from_rules g.nodes (length g.leaves) (none_from (tree_fault g.nodes (length g.leaves)) (and_right (is_none (first_broken (group_rules g))) (is_none (tree_fault g.nodes (length g.leaves))) (group_keeps t g s.field c)))
