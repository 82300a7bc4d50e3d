-- What is kept of a group is of the second version: each leaf has its offset.
use Rattle.std.proofs.Common.{◌≡◌, ℕ, ◌+◌, ◌≤◌, nat_lt, Bool, true, false, List, [], ◌∷◌, ◌++◌, length, codes, None, is_some, refl, ap, arith, if◌then◌else◌}
use Rattle.std.specs.Bool.{⊤}
use Rattle.serde_json.specs.Data.{Data}
use Rattle.serde_json.specs.View.{items_of}
use Rattle.desk_base.specs.declared.rows.tables.AnyRow.{AnyRow}
use Rattle.desk_base.specs.declared.rows.tables.AnyRow.TheVariants.{Group}
use Rattle.desk_base.specs.declared.rows.groups.GroupRow.{GroupRow}
use Rattle.desk_base.specs.declared.rows.groups.Node.{Node}
use Rattle.desk_base.specs.declared.rows.groups.Leaf.{Leaf}
use Rattle.desk_base.specs.declared.rows.groups.NodeKind.{NodeKind}
use Rattle.desk_base.specs.declared.rows.groups.NodeKind.TheVariants as kind
use Rattle.desk_base.specs.declared.rows.groups.Same.{Same}
use Rattle.desk_base.specs.declared.rows.groups.Same.TheVariants as same
use Rattle.desk_base.specs.rows.Rows.{key_of}
use Rattle.desk_base.specs.meaning.Trees.{is_leaf}
use Rattle.desk_base.specs.rules.TreeRules.{tree_fault}
use Rattle.desk_kept.specs.Groups.{node_data, Placed, children, siblings_after, first_leaf, leaves_after, trees_of, tree_data}
use Rattle.desk_kept.specs.Leaves.{first_entries, middle_entries, last_entries, leaf_data}
use Rattle.desk_kept.specs.Kept.{row_data}
use Rattle.desk_kept.specs.Rules.{KeepsRules}
use Rattle.desk_kept.specs.Versions.{has_offset_as, leaves_are, items_are, is_of_version}
use Rattle.desk_kept.specs.declared.versions.Version.TheVariants.{Second}
use Rattle.desk_kept.proofs.Present.{get_present}
use Rattle.desk_kept.proofs.TreeShapes.{leaf_nodes, tree_kept, some_node}
use Rattle.desk_kept.proofs.GroupLaws.{tree_holds}

leaf_second : (l : Leaf) → has_offset_as Second (leaf_data l) ≡ true
leaf_second l = ap is_some (get_present (codes "offset") (first_entries l ++ middle_entries l ++ last_entries l))

abbrev AreSecond : List Placed → Type 0
AreSecond [] = ⊤
AreSecond (p ∷ ps) = (leaves_are Second p.data_of ≡ true) × AreSecond ps

siblings_by : (p : Placed) (ps others : List Placed) (b : Bool) → AreSecond others → AreSecond (p ∷ ps) → AreSecond (if b then others else p ∷ ps)
siblings_by p ps others true h k = h
siblings_by p ps others false h k = k

siblings_second : (d : ℕ) (ps : List Placed) → AreSecond ps → AreSecond (siblings_after d ps)
siblings_second d [] h = tt
siblings_second d (p ∷ ps) h = siblings_by p ps (siblings_after d ps) (nat_lt d p.depth) (siblings_second d ps h.1) h

children_by : (p : Placed) (ds : List Data) (b : Bool) → leaves_are Second p.data_of ≡ true → items_are Second (items_of ds) ≡ true → items_are Second (items_of (if b then p.data_of ∷ ds else [])) ≡ true
children_by p ds true h k = rw (h, k) refl
children_by p ds false h k = refl

children_second : (d : ℕ) (ps : List Placed) → AreSecond ps → items_are Second (items_of (children d ps)) ≡ true
children_second d [] h = refl
children_second d (p ∷ ps) h = children_by p (children d ps) (nat_lt d p.depth) h.0 (children_second d ps h.1)

-- how many leaves a node has of its own
abbrev own_leaves : NodeKind → ℕ
own_leaves k = if is_leaf k then 1 else 0

node_second : (k : NodeKind) (s : Same) (ds : List Data) (ls : List Leaf) → items_are Second (items_of ds) ≡ true → own_leaves k ≤ length ls → leaves_are Second (node_data k s ds (first_leaf ls)) ≡ true
node_second kind.All same.None ds ls h some = rw h refl
node_second kind.All same.Unit ds ls h some = rw h refl
node_second kind.All same.Site ds ls h some = rw h refl
node_second kind.All same.Crew ds ls h some = rw h refl
node_second kind.Any same.None ds ls h some = rw h refl
node_second kind.Any same.Unit ds ls h some = rw h refl
node_second kind.Any same.Site ds ls h some = rw h refl
node_second kind.Any same.Crew ds ls h some = rw h refl
node_second kind.Leaf s ds [] h some = absurd (omega (arith, some))
node_second kind.Leaf s ds (l ∷ ls) h some = rw (leaf_second l) refl

-- the leaves behind a node are enough for the nodes behind it
rest_enough : (k : NodeKind) (m : ℕ) (ls : List Leaf) → own_leaves k + m ≤ length ls → m ≤ length (leaves_after k ls)
rest_enough kind.All m ls h = omega (arith, h)
rest_enough kind.Any m ls h = omega (arith, h)
rest_enough kind.Leaf m [] h = absurd (omega (arith, h))
rest_enough kind.Leaf m (l ∷ ls) h = omega (arith, h)

trees_second : (ns : List Node) (ls : List Leaf) → leaf_nodes ns ≤ length ls → AreSecond (trees_of ns ls)
trees_second [] ls h = tt
trees_second (n ∷ ns) ls h =
    let ps = trees_of ns (leaves_after n.kind ls) in
    let later = trees_second ns (leaves_after n.kind ls) (rest_enough n.kind (leaf_nodes ns) ls h) in
    (node_second n.kind n.same (children n.depth ps) ls (children_second n.depth ps later) (omega (arith, h)), siblings_second n.depth ps later)

tree_second : (ns : List Node) (ls : List Leaf) → tree_fault ns (length ls) ≡ None → leaves_are Second (tree_data ns ls) ≡ true
tree_second [] ls e = absurd (some_node (length ls) e)
tree_second (n ∷ ns) ls e = (trees_second (n ∷ ns) ls (omega (arith, (tree_kept n ns (length ls) e).leaves))).0

group_second : (g : GroupRow) → KeepsRules (Group g) → leaves_are Second (row_data (Group g)) ≡ true
group_second g keeps = rw (tree_second g.nodes g.leaves (tree_holds g keeps)) refl

-- what is kept of a row that keeps its rules is of the second version
pub second : (row : AnyRow) → KeepsRules row → is_of_version Second (key_of row).table (row_data row) ≡ true
second (Group g) keeps = group_second g keeps
second _ keeps = refl
