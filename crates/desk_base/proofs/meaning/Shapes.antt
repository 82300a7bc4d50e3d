-- The tree rules: the tree of sound nodes has a leaf for each leaf node.
use Rattle.std.proofs.Common.{◌≡◌, ℕ, ◌+◌, ◌-◌, ◌≤◌, Bool, true, false, cond, not, ◌&&◌, ◌||◌, ◌==◌, List, [], ◌∷◌, map, length, Option, Some, None, refl, sym, ap, ◌∙◌, arith, nat_le, nat_lt, is_none}
use Rattle.std.proofs.lemmas.Bool.{false≢true}
use Rattle.std.proofs.lemmas.Bool.Decides.{nat_tests}
use Rattle.std.specs.List.{AllByRecursion}
use Rattle.desk_base.specs.rows.Types.{GroupRow, Node, NodeKind, Tables}
use Rattle.desk_base.specs.declared.rows.groups.NodeKind.TheVariants.{All, Any, Leaf}
use Rattle.desk_base.specs.declared.asked.rules.TreeRule.{TreeRule}
use Rattle.desk_base.specs.declared.asked.rules.TreeRule.TheVariants.{Leaves}
use Rattle.desk_base.specs.rules.Rules.{first_broken}
use Rattle.desk_base.specs.meaning.Trees.{Trees, none, tree_and, PlacedTree, children, siblings_after, tree_by, trees_of, tree_of, leaf_count, leaf_counts, is_leaf, leaf_bit}
use Rattle.desk_base.specs.rules.TreeRules.{TreeFault, is_in_order, node_rules, node_fault, tree_fault, fault_or}
use Rattle.std.specs.Prelude.{Contains}
use Rattle.desk_base.specs.rules.Fields.{group_rules}
use Rattle.desk_base.specs.declared.rows.tables.Table.TheVariants.{Booking as BookingTable}
use Rattle.desk_base.specs.declared.rows.tables.AnyRow.TheVariants.{Booking}
use Rattle.desk_base.specs.rows.Rows.{key_of}
use Rattle.desk_base.specs.rules.Limits.{window_limit, least_step, minutes_a_day, node_limit, leaf_limit}
use Rattle.desk_base.specs.rules.TableLimits.{limit_of}
use Rattle.desk_base.specs.rules.Sound.{IsSound, AreWellFormed}
use Rattle.desk_base.specs.search.Listing.{IsSoundGroup}
use Rattle.desk_base.proofs.lists.Tests.{and_left, and_right}
use Rattle.desk_base.proofs.tables.Sounds.{group_keeps, few_keys}
use Rattle.std.proofs.lemmas.List.{length-map}

-- the leaves of some trees in a row
abbrev counts : List PlacedTree → ℕ
counts [] = 0
counts (p ∷ ps) = leaf_count p.tree + counts ps

abbrev leaf_nodes : List Node → ℕ
leaf_nodes [] = 0
leaf_nodes (n ∷ ns) = leaf_bit n + leaf_nodes ns

split_step : (b : Bool) (p : PlacedTree) (ps : List PlacedTree) (cs : Trees) (bs : List PlacedTree) → leaf_counts cs + counts bs ≡ counts ps → leaf_counts (cond b (tree_and p.tree cs) none) + counts (cond b bs (p ∷ ps)) ≡ counts (p ∷ ps)
split_step true p ps cs bs e = omega arith
split_step false p ps cs bs e = omega arith

-- children and what stands beside them are all the trees
counts_split : (d : ℕ) (ps : List PlacedTree) → leaf_counts (children d ps) + counts (siblings_after d ps) ≡ counts ps
counts_split d [] = refl
counts_split d (p ∷ ps) = split_step (nat_lt d p.depth) p ps (children d ps) (siblings_after d ps) (counts_split d ps)

-- what the rules say of the nodes from one on
abbrev pub AllOrdered : Option Node → List Node → Type 0
AllOrdered before [] = Unit {0}
AllOrdered before (n ∷ ns) = (is_in_order before n ≡ true) × AllOrdered (Some n) ns

kept_step : {R : Type 0} (b : Bool) (r : R) (o : Option R) → cond b o (Some r) ≡ None → (b ≡ true) × (o ≡ None)
kept_step true r o e = (refl, e)
kept_step false r o e = absurd (false≢true (ap is_none e))

-- where no rule is broken each holds
pub rules_kept : {R : Type 0} (rules : List (Bool × R)) → first_broken rules ≡ None → AllByRecursion (λ x. x.0 ≡ true) rules
rules_kept [] e = tt
rules_kept (x ∷ xs) e = let h = kept_step x.0 x.1 (first_broken xs) e in (h.0, rules_kept xs h.1)

pub fault_none : (o : Option TreeRule) (i : ℕ) (later : Option TreeFault) → fault_or o i later ≡ None → (o ≡ None) × (later ≡ None)
fault_none None i later e = (refl, e)
fault_none (Some r) i later e = absurd (false≢true (ap is_none e))

abbrev end_fault : Bool → ℕ → Option TreeFault
end_fault b i = cond b None (Some (record { rule = Leaves; node = i }))

last_fault : (leaves size i : ℕ) (b : Bool) → (leaves == size) ≡ b → end_fault b i ≡ None → leaves ≡ size
last_fault leaves size i true h e = grind (arith, nat_tests)
last_fault leaves size i false h e = absurd (false≢true (ap is_none e))

pub ordered_from : (size i leaves : ℕ) (before : Option Node) (ns : List Node) → node_fault size i leaves before ns ≡ None → AllOrdered before ns × (leaves + leaf_nodes ns ≡ size)
ordered_from size i leaves before [] e = (tt, omega (arith, last_fault leaves size i (leaves == size) refl e))
ordered_from size i leaves before (n ∷ ns) e =
    let f = fault_none (first_broken (node_rules i leaves before n ns)) i (node_fault size (i + 1) (leaves + leaf_bit n) (Some n) ns) e in
    let k = rules_kept (node_rules i leaves before n ns) f.0 in
    let r = ordered_from size (i + 1) (leaves + leaf_bit n) (Some n) ns f.1 in
    ((and_left (is_in_order before n) _ k.1.0, r.0), omega (arith, r.1))

-- ---- the tree of all the nodes

-- the first tree of the nodes begins where they do
first_depth : (d : ℕ) (n : Node) (ns : List Node) → n.depth ≤ d → children d (trees_of (n ∷ ns)) ≡ none
first_depth d n ns h =
    let e : nat_lt d n.depth ≡ false = grind (arith, nat_tests) in
    ap (λ b. cond b (tree_and (tree_by n.kind (children n.depth (trees_of ns))) (children d (siblings_after n.depth (trees_of ns)))) none) e

or-false : (b : Bool) → (b || false) ≡ b
or-false true = refl
or-false false = refl

not_deeper : (n m : Node) → n.kind ≡ Leaf → is_in_order (Some n) m ≡ true → m.depth ≤ n.depth
not_deeper n m k h =
    let e : nat_le m.depth n.depth ≡ true = sym (or-false (nat_le m.depth n.depth)) ∙ sym (ap (λ x. nat_le m.depth n.depth || not (is_leaf x)) k) ∙ and_right (nat_le 1 m.depth && nat_le m.depth (n.depth + 1)) (nat_le m.depth n.depth || not (is_leaf n.kind)) h in
    grind (arith, nat_tests)

-- a leaf node has no deeper node after it
pub no_children : (n : Node) (ns : List Node) → n.kind ≡ Leaf → AllOrdered (Some n) ns → children n.depth (trees_of ns) ≡ none
no_children n [] k h = refl
no_children n (m ∷ ms) k h = first_depth n.depth m ms (not_deeper n m k h.0)

node_step : (k : NodeKind) (cs : Trees) (b t l : ℕ) → leaf_counts cs + b ≡ t → t ≡ l → (k ≡ Leaf → cs ≡ none) → leaf_count (tree_by k cs) + b ≡ (cond (is_leaf k) 1 0) + l
node_step All cs b t l e f h = omega arith
node_step Any cs b t l e f h = omega arith
node_step Leaf cs b t l e f h = let g = ap leaf_counts (h refl) in omega arith

counts_nodes : (before : Option Node) (ns : List Node) → AllOrdered before ns → counts (trees_of ns) ≡ leaf_nodes ns
counts_nodes before [] h = refl
counts_nodes before (n ∷ ns) h =
    node_step n.kind (children n.depth (trees_of ns)) (counts (siblings_after n.depth (trees_of ns))) (counts (trees_of ns)) (leaf_nodes ns) (counts_split n.depth (trees_of ns)) (counts_nodes (Some n) ns h.1) (λ k. no_children n ns k h.1)

-- ---- one tree takes all the nodes

abbrev IsBelow : List PlacedTree → Type 0
IsBelow ps = AllByRecursion (λ (p : PlacedTree). 1 ≤ p.depth) ps

beside_step : (b : Bool) (p : PlacedTree) (ps bs : List PlacedTree) → IsBelow (p ∷ ps) → IsBelow bs → IsBelow (cond b bs (p ∷ ps))
beside_step true p ps bs h k = k
beside_step false p ps bs h k = h

beside_below : (d : ℕ) (ps : List PlacedTree) → IsBelow ps → IsBelow (siblings_after d ps)
beside_below d [] h = tt
beside_below d (p ∷ ps) h = beside_step (nat_lt d p.depth) p ps (siblings_after d ps) h (beside_below d ps h.1)

later_depth : (before n : Node) → is_in_order (Some before) n ≡ true → 1 ≤ n.depth
later_depth before n h =
    let e = and_left (nat_le 1 n.depth) (nat_le n.depth (before.depth + 1)) (and_left (nat_le 1 n.depth && nat_le n.depth (before.depth + 1)) _ h) in
    grind (arith, nat_tests)

trees_below : (before : Node) (ns : List Node) → AllOrdered (Some before) ns → IsBelow (trees_of ns)
trees_below before [] h = tt
trees_below before (n ∷ ns) h = (later_depth before n h.0, beside_below n.depth (trees_of ns) (trees_below n ns h.1))

nothing_beside : (d : ℕ) (ps : List PlacedTree) → d ≡ 0 → IsBelow ps → siblings_after d ps ≡ []
nothing_beside d [] e h = refl
nothing_beside d (p ∷ ps) e h =
    let l : nat_lt d p.depth ≡ true = let b = h.0 in grind (arith, nat_tests) in
    ap (λ b. cond b (siblings_after d ps) (p ∷ ps)) l ∙ nothing_beside d ps e h.1

first_depth_is : (n : Node) → is_in_order None n ≡ true → n.depth ≡ 0
first_depth_is n h = grind (arith, nat_tests)

-- the tree of nodes that break no rule has as many leaves as the list of leaves
pub leaves_from_rules : (nodes : List Node) (size : ℕ) → tree_fault nodes size ≡ None → size ≡ leaf_count (tree_of nodes)
leaves_from_rules [] size e = absurd (false≢true (ap is_none e))
leaves_from_rules (n ∷ ns) size e =
    let r = ordered_from size 0 0 None (n ∷ ns) e in
    let all = counts_nodes None (n ∷ ns) r.0 in
    let none_left = ap counts (nothing_beside n.depth (trees_of ns) (first_depth_is n r.0.0) (trees_below n ns r.0.1)) in
    omega (arith, r.1, all, none_left)

leaf_alone : (k : NodeKind) → is_leaf k ≡ true → ◌≡◌ {A = ℕ} (cond (is_leaf k) 1 0) 1
leaf_alone k e = ap (λ b. cond b 1 0) e

-- the last node is a leaf
some_leaf : (size i leaves : ℕ) (before : Option Node) (n : Node) (ns : List Node) → node_fault size i leaves before (n ∷ ns) ≡ None → 1 ≤ leaf_nodes (n ∷ ns)
some_leaf size i leaves before n (m ∷ ms) e =
    let f = fault_none (first_broken (node_rules i leaves before n (m ∷ ms))) i (node_fault size (i + 1) (leaves + leaf_bit n) (Some n) (m ∷ ms)) e in
    omega (arith, some_leaf size (i + 1) (leaves + leaf_bit n) (Some n) m ms f.1)
some_leaf size i leaves before n [] e =
    let f = fault_none (first_broken (node_rules i leaves before n [])) i (node_fault size (i + 1) (leaves + leaf_bit n) (Some n) []) e in
    let k = rules_kept (node_rules i leaves before n []) f.0 in
    let l = leaf_alone n.kind k.1.1.1.0 in
    omega arith

pub some_from_rules : (nodes : List Node) (size : ℕ) → tree_fault nodes size ≡ None → 1 ≤ size
some_from_rules [] size e = absurd (false≢true (ap is_none e))
some_from_rules (n ∷ ns) size e = let r = ordered_from size 0 0 None (n ∷ ns) e in omega (arith, r.1, some_leaf size 0 0 None n ns e)

pub none_from : {A : Type 0} (o : Option A) → is_none o ≡ true → o ≡ None
none_from None e = refl
none_from (Some x) e = absurd (false≢true e)

-- the fields and the tree of a group of well-formed tables
group_fields : (t : Tables) (g : GroupRow) → AreWellFormed t → Contains t.groups g → first_broken (group_rules g) ≡ None
group_fields t g s c = none_from (first_broken (group_rules g)) (and_left (is_none (first_broken (group_rules g))) (is_none (tree_fault g.nodes (length g.leaves))) (group_keeps t g s.field c))

group_tree : (t : Tables) (g : GroupRow) → AreWellFormed t → Contains t.groups g → tree_fault g.nodes (length g.leaves) ≡ None
group_tree t g s c = none_from (tree_fault g.nodes (length g.leaves)) (and_right (is_none (first_broken (group_rules g))) (is_none (tree_fault g.nodes (length g.leaves))) (group_keeps t g s.field c))

-- a group of well-formed tables
pub sound_group : (t : Tables) (g : GroupRow) → AreWellFormed t → Contains t.groups g → IsSoundGroup g
sound_group t g s c =
    let fault = group_tree t g s c in
    let k = rules_kept (group_rules g) (group_fields t g s c) in
    let w = and_left (nat_lt g.from g.to) (nat_le (g.to - g.from) window_limit) k.1.0 in
    let p = and_left (nat_le least_step g.step) (nat_le g.step minutes_a_day) k.1.1.0 in
    record {
      leaves = leaves_from_rules g.nodes (length g.leaves) fault;
      some = some_from_rules g.nodes (length g.leaves) fault;
      step = grind (arith, nat_tests);
      window = grind (arith, nat_tests);
    }

pub few_bookings : (t : Tables) → IsSound t → length t.bookings ≤ limit_of BookingTable
few_bookings t s =
    let h = few_keys t BookingTable s in
    let a = length-map (map Booking t.bookings) key_of in
    let b = length-map t.bookings Booking in omega arith

few_nodes : (size i leaves : ℕ) (before : Option Node) (n : Node) (ns : List Node) → node_fault size i leaves before (n ∷ ns) ≡ None → i + length (n ∷ ns) ≤ node_limit
few_nodes size i leaves before n [] e =
    let f = fault_none (first_broken (node_rules i leaves before n [])) i (node_fault size (i + 1) (leaves + leaf_bit n) (Some n) []) e in
    let b = (rules_kept (node_rules i leaves before n []) f.0).0 in grind (arith, nat_tests)
few_nodes size i leaves before n (m ∷ ms) e =
    let f = fault_none (first_broken (node_rules i leaves before n (m ∷ ms))) i (node_fault size (i + 1) (leaves + leaf_bit n) (Some n) (m ∷ ms)) e in
    omega (arith, few_nodes size (i + 1) (leaves + leaf_bit n) (Some n) m ms f.1)

room_for_leaf : (k : NodeKind) (leaves : ℕ) → (not (is_leaf k) || nat_lt leaves leaf_limit) ≡ true → leaves ≤ leaf_limit → leaves + cond (is_leaf k) 1 0 ≤ leaf_limit
room_for_leaf All leaves e h = omega (arith, h)
room_for_leaf Any leaves e h = omega (arith, h)
room_for_leaf Leaf leaves e h = grind (arith, nat_tests)

few_leaf_nodes : (size i leaves : ℕ) (before : Option Node) (ns : List Node) → node_fault size i leaves before ns ≡ None → leaves ≤ leaf_limit → leaves + leaf_nodes ns ≤ leaf_limit
few_leaf_nodes size i leaves before [] e h = omega (arith, h)
few_leaf_nodes size i leaves before (n ∷ ns) e h =
    let f = fault_none (first_broken (node_rules i leaves before n ns)) i (node_fault size (i + 1) (leaves + leaf_bit n) (Some n) ns) e in
    let k = rules_kept (node_rules i leaves before n ns) f.0 in
    omega (arith, few_leaf_nodes size (i + 1) (leaves + leaf_bit n) (Some n) ns f.1 (room_for_leaf n.kind leaves k.1.1.1.1.0 h))

few_from_rules : (nodes : List Node) (size : ℕ) → tree_fault nodes size ≡ None → size ≤ leaf_limit
few_from_rules [] size e = absurd (false≢true (ap is_none e))
few_from_rules (n ∷ ns) size e =
    let r = ordered_from size 0 0 None (n ∷ ns) e in
    omega (arith, r.1, few_leaf_nodes size 0 0 None (n ∷ ns) e (omega arith))

few_of_rules : (nodes : List Node) (size : ℕ) → tree_fault nodes size ≡ None → length nodes ≤ node_limit
few_of_rules [] size e = omega arith
few_of_rules (n ∷ ns) size e = omega (arith, few_nodes size 0 0 None n ns e)

pub few_leaves : (t : Tables) (g : GroupRow) → AreWellFormed t → Contains t.groups g → length g.leaves ≤ leaf_limit
few_leaves t g s c = few_from_rules g.nodes (length g.leaves) (group_tree t g s c)

pub few_nodes_of : (t : Tables) (g : GroupRow) → AreWellFormed t → Contains t.groups g → length g.nodes ≤ node_limit
few_nodes_of t g s c = few_of_rules g.nodes (length g.leaves) (group_tree t g s c)
