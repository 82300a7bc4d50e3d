-- A tree of nodes that break no rule has few leaves, and a pattern.
use Rattle.std.proofs.Common.{◌≡◌, ℕ, zero, suc, ◌+◌, ◌≤◌, Bool, true, false, cond, not, ◌&&◌, ◌||◌, ◌==◌, List, [], ◌∷◌, length, drop, Option, Some, None, refl, ap, ◌∙◌, arith, nat_lt, is_none}
use Rattle.std.proofs.lemmas.Bool.{false≢true}
use Rattle.std.proofs.lemmas.Bool.Decides.{nat_tests}
use Rattle.desk_base.specs.declared.rows.groups.Node.{Node}
use Rattle.desk_base.specs.declared.rows.groups.NodeKind.{NodeKind}
use Rattle.desk_base.specs.declared.rows.groups.NodeKind.TheVariants.{All, Any, Leaf}
use Rattle.desk_base.specs.declared.asked.rules.TreeRule.{TreeRule}
use Rattle.desk_base.specs.declared.asked.rules.TreeRule.TheVariants.{Leaves}
use Rattle.desk_base.specs.rules.Limits.{leaf_limit, node_limit}
use Rattle.desk_base.specs.rules.Rules.{first_broken}
use Rattle.desk_base.specs.rules.TreeRules.{TreeFault, node_rules, node_fault, tree_fault, fault_or}
use Rattle.desk_base.specs.meaning.Trees.{Tree, Trees, none, tree_and, tree_by, tree_of, leaf_count, leaf_counts, is_leaf, leaf_bit}
use Rattle.desk_base.specs.search.Listing.{BeginsPattern}
use Rattle.desk_base.proofs.lists.Tests.{and_both}
use Rattle.desk_base.proofs.meaning.Shapes.{rules_kept}
use Rattle.desk_base.proofs.meaning.SoundTrees.{has_trees, AllTrees, from_rules}
use Rattle.desk_need.specs.Judging.{none_chosen, begins, all_begin, one_begins}
use Rattle.desk_need.proofs.Begins.{begins_decides, drop-nil, leaves_nothing, or_left}

-- ---- leaves

fault_none : (o : Option TreeRule) (i : ℕ) (later : Option TreeFault) → fault_or o i later ≡ None → (o ≡ None) × (later ≡ None)
fault_none None i later e = (refl, e)
fault_none (Some rule) i later e = absurd (false≢true (ap is_none e))

end_kept : (leaves size i : ℕ) (b : Bool) → (leaves == size) ≡ b → cond {A = Option TreeFault} b None (Some (record { rule = Leaves; node = i })) ≡ None → leaves ≡ size
end_kept leaves size i true h e = grind (arith, nat_tests)
end_kept leaves size i false h e = absurd (false≢true (ap is_none e))

one_more : (b : Bool) (leaves : ℕ) → leaves ≤ leaf_limit → (not b || nat_lt leaves leaf_limit) ≡ true → leaves + cond b 1 0 ≤ leaf_limit
one_more true leaves l e = grind (arith, nat_tests)
one_more false leaves l e = omega arith

few_from : (size i leaves : ℕ) (before : Option Node) (ns : List Node) → leaves ≤ leaf_limit → node_fault size i leaves before ns ≡ None → size ≤ leaf_limit
few_from size i leaves before [] l e = omega (arith, l, end_kept leaves size i (leaves == size) refl e)
few_from size i leaves before (n ∷ ns) l e =
    let f = fault_none (first_broken (node_rules i leaves before n ns)) i (node_fault size (i + 1) (leaves + leaf_bit n) (Some n) ns) e in
    let k = rules_kept (node_rules i leaves before n ns) f.0 in
    few_from size (i + 1) (leaves + leaf_bit n) (Some n) ns (one_more (is_leaf n.kind) leaves l k.1.1.1.1.0) f.1

-- nodes that break no rule have few leaves
pub few_leaves : (nodes : List Node) (size : ℕ) → tree_fault nodes size ≡ None → size ≤ leaf_limit
few_leaves [] size e = absurd (false≢true (ap is_none e))
few_leaves (n ∷ ns) size e = few_from size 0 0 None (n ∷ ns) (omega arith) e

few_on : (size i leaves : ℕ) (before : Option Node) (ns : List Node) → i ≤ node_limit → node_fault size i leaves before ns ≡ None → i + length ns ≤ node_limit
few_on size i leaves before [] l e = omega (arith, l)
few_on size i leaves before (n ∷ ns) l e =
    let f = fault_none (first_broken (node_rules i leaves before n ns)) i (node_fault size (i + 1) (leaves + leaf_bit n) (Some n) ns) e in
    let k = rules_kept (node_rules i leaves before n ns) f.0 in
    let r = few_on size (i + 1) (leaves + leaf_bit n) (Some n) ns (one_below i k.0) f.1 in
    omega arith
  where
    one_below : (j : ℕ) → nat_lt j node_limit ≡ true → j + 1 ≤ node_limit
    one_below j e = grind (arith, nat_tests)

-- there are few of them
pub few_nodes : (nodes : List Node) (size : ℕ) → tree_fault nodes size ≡ None → length nodes ≤ node_limit
few_nodes [] size e = omega arith
few_nodes (n ∷ ns) size e = omega (arith, few_on size 0 0 None (n ∷ ns) (omega arith) e)

-- ---- patterns

abbrev HasPattern : Tree → Type 0
HasPattern t = begins t [] ≡ true

each_has : (ts : Trees) → AllTrees HasPattern ts → all_begin ts [] ≡ true
each_has none h = refl
each_has (tree_and t ts) h = and_both (begins t []) (all_begin ts (drop (leaf_count t) [])) h.0 (ap (all_begin ts) (drop-nil (leaf_count t)) ∙ each_has ts h.1)

nothing_chosen : (n : ℕ) → none_chosen n [] ≡ true
nothing_chosen zero = refl
nothing_chosen (suc n) = refl

of_kind : (k : NodeKind) (ts : Trees) → AllTrees HasPattern ts → (is_leaf k || has_trees ts) ≡ true → HasPattern (tree_by k ts)
of_kind All ts h e = each_has ts h
of_kind Any none h e = absurd (false≢true e)
of_kind Any (tree_and t ts) h e =
    or_left (begins t [] && none_chosen (leaf_counts ts) (drop (leaf_count t) [])) (none_chosen (leaf_count t) [] && one_begins ts (drop (leaf_count t) []))
    (and_both (begins t []) (none_chosen (leaf_counts ts) (drop (leaf_count t) [])) h.0 (ap (none_chosen (leaf_counts ts)) (drop-nil (leaf_count t)) ∙ nothing_chosen (leaf_counts ts)))
of_kind Leaf ts h e = refl

-- no bit at all begins a pattern
pub nothing_begins : (nodes : List Node) (size : ℕ) → tree_fault nodes size ≡ None → BeginsPattern (tree_of nodes) []
nothing_begins nodes size e =
    (begins_decides nodes []).0 (and_both (begins (tree_of nodes) []) (length (drop (leaf_count (tree_of nodes)) []) == 0) (from_rules HasPattern of_kind nodes size e) (leaves_nothing (leaf_count (tree_of nodes)) [] (omega arith)))
