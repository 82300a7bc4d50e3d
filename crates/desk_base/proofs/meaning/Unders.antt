-- What stands under an inner node counts as many leaves as its tree.
use Rattle.std.proofs.Common.{◌≡◌, ℕ, ◌+◌, ◌≤◌, Bool, true, false, cond, List, [], ◌∷◌, ◌++◌, Option, Some, None, refl, sym, ap, ◌∙◌, arith, nat_lt}
use Rattle.std.proofs.lemmas.Bool.Decides.{nat_tests}
use Rattle.std.proofs.lemmas.Bool.{false≢true}
use Rattle.desk_base.specs.rows.Types.{Node, NodeKind}
use Rattle.desk_base.specs.declared.rows.groups.NodeKind.TheVariants.{All, Any, Leaf}
use Rattle.desk_base.specs.meaning.Trees.{Trees, none, tree_and, PlacedTree, children, siblings_after, tree_by, trees_of, leaf_count, leaf_counts, is_leaf, leaf_bit}
use Rattle.desk_base.specs.rules.TreeRules.{tree_fault}
use Rattle.desk_base.specs.meaning.Picks.{leaves_under}
use Rattle.desk_base.proofs.meaning.Shapes.{AllOrdered, ordered_from, no_children}

-- the trees deeper than d are those deeper than k and, behind these, those deeper than d
split_step : (d k : ℕ) (p : PlacedTree) (ps : List PlacedTree) (b : Bool) → d ≤ k → nat_lt k p.depth ≡ b
    → leaf_counts (children d ps) ≡ leaf_counts (children k ps) + leaf_counts (children d (siblings_after k ps))
    → leaf_counts (children d (p ∷ ps)) ≡ leaf_counts (cond b (tree_and p.tree (children k ps)) none) + leaf_counts (children d (cond b (siblings_after k ps) (p ∷ ps)))
split_step d k p ps true h e r =
    let deep : nat_lt d p.depth ≡ true = grind (arith, nat_tests) in
    let here : leaf_counts (children d (p ∷ ps)) ≡ leaf_count p.tree + leaf_counts (children d ps) = ap (λ c. leaf_counts (cond c (tree_and p.tree (children d ps)) none)) deep in
    omega (arith, here, r)
split_step d k p ps false h e r = omega arith

children_split : (d k : ℕ) (ps : List PlacedTree) → d ≤ k → leaf_counts (children d ps) ≡ leaf_counts (children k ps) + leaf_counts (children d (siblings_after k ps))
children_split d k [] h = omega arith
children_split d k (p ∷ ps) h = split_step d k p ps (nat_lt k p.depth) h refl (children_split d k ps h)

own_leaves : (n : Node) (cs : Trees) (k : NodeKind) → n.kind ≡ k → (k ≡ Leaf → cs ≡ none) → leaf_count (tree_by k cs) ≡ cond (is_leaf k) 1 0 + leaf_counts cs
own_leaves n cs All e h = omega arith
own_leaves n cs Any e h = omega arith
own_leaves n cs Leaf e h = let f = ap leaf_counts (h refl) in omega (arith, f)

under_step : (d : ℕ) (n : Node) (ns : List Node) (b : Bool) → nat_lt d n.depth ≡ b → AllOrdered (Some n) ns → leaves_under d ns ≡ leaf_counts (children d (trees_of ns))
    → cond b (leaf_bit n + leaves_under d ns) 0
    ≡ leaf_counts (cond b (tree_and (tree_by n.kind (children n.depth (trees_of ns))) (children d (siblings_after n.depth (trees_of ns)))) none)
under_step d n ns true e h r =
    let own = own_leaves n (children n.depth (trees_of ns)) n.kind refl (λ k. no_children n ns k h) in
    let split = children_split d n.depth (trees_of ns) (below d n.depth e) in
    omega (arith, own, split, r)
  where
    below : (d k : ℕ) → nat_lt d k ≡ true → d ≤ k
    below d k e = grind (arith, nat_tests)
under_step d n ns false e h r = refl

-- the leaf nodes up to the first node that is not deeper than d are the leaves of the trees deeper than d
pub under_trees : (d : ℕ) (before : Option Node) (ns : List Node) → AllOrdered before ns → leaves_under d ns ≡ leaf_counts (children d (trees_of ns))
under_trees d before [] h = refl
under_trees d before (n ∷ ns) h = under_step d n ns (nat_lt d n.depth) refl h.1 (under_trees d (Some n) ns h.1)

behind : (before : Option Node) (front ns : List Node) (n : Node) → AllOrdered before (front ++ n ∷ ns) → AllOrdered (Some n) ns
behind before [] ns n h = h.1
behind before (m ∷ front) ns n h = behind (Some m) front ns n h.1

inner_is : (n : Node) (cs : Trees) (k : NodeKind) → is_leaf k ≡ false → leaf_counts cs ≡ leaf_count (tree_by k cs)
inner_is n cs All e = refl
inner_is n cs Any e = refl
inner_is n cs Leaf e = absurd (false≢true (sym e))

all_ordered : (nodes : List Node) (size : ℕ) → tree_fault nodes size ≡ None → AllOrdered None nodes
all_ordered [] size e = tt
all_ordered (n ∷ ns) size e = (ordered_from size 0 0 None (n ∷ ns) e).0

pub under_is : (front ns : List Node) (n : Node) (size : ℕ) → tree_fault (front ++ n ∷ ns) size ≡ None → is_leaf n.kind ≡ false → leaves_under n.depth ns ≡ leaf_count (tree_by n.kind (children n.depth (trees_of ns)))
under_is front ns n size e inner =
    under_trees n.depth (Some n) ns (behind None front ns n (all_ordered (front ++ n ∷ ns) size e)) ∙ inner_is n (children n.depth (trees_of ns)) n.kind inner
