-- Nodes that keep the tree rules, one by one.
use Rattle.std.proofs.Common.{◌≡◌, ℕ, ◌+◌, ◌≤◌, nat_le, Bool, true, false, not, ◌&&◌, ◌||◌, ◌==◌, List, [], ◌∷◌, Option, Some, None, refl, sym, ap, true≢false, arith, if◌then◌else◌}
use Rattle.std.specs.Bool.{⊤}
use Rattle.std.proofs.lemmas.Bool.{and_parts, leb-true, eqb-true}
use Rattle.desk_base.specs.declared.rows.groups.Node.{Node}
use Rattle.desk_base.specs.declared.rows.groups.NodeKind.TheVariants.{Leaf}
use Rattle.desk_base.specs.declared.rows.groups.Same.{Same}
use Rattle.desk_base.specs.declared.rows.groups.Same.TheVariants as same
use Rattle.desk_base.specs.declared.asked.rules.TreeRule.{TreeRule}
use Rattle.desk_base.specs.declared.asked.rules.TreeRule.TheVariants.{Leaves}
use Rattle.desk_base.specs.rules.Rules.{first_broken}
use Rattle.desk_base.specs.rules.Limits.{depth_limit}
use Rattle.desk_base.specs.rules.TreeRules.{TreeFault, asks_same, is_in_order, node_rules, fault_or, node_fault, tree_fault}
use Rattle.desk_base.specs.meaning.Trees.{is_leaf, leaf_bit}
use Rattle.desk_kept.proofs.BrokenRules.{others, hold}

-- how many of the nodes are leaf nodes
abbrev pub leaf_nodes : List Node → ℕ
leaf_nodes [] = 0
leaf_nodes (n ∷ ns) = leaf_bit n + leaf_nodes ns

-- a node that comes next is at most one deeper, and not below a leaf
abbrev pub IsNext : Node → List Node → Type 0
IsNext n [] = ⊤
IsNext n (m ∷ ms) = (1 ≤ m.depth) × (m.depth ≤ n.depth + 1) × (n.kind ≡ Leaf → m.depth ≤ n.depth)

-- a node is not too deep, asks leaves for nothing in common, and stands before what may come next
pub record IsNode (n : Node) (ns : List Node) : Type 0 where
  pub shallow : n.depth ≤ depth_limit
  pub plain : n.kind ≡ Leaf → n.same ≡ same.None
  pub next : IsNext n ns

abbrev pub AreNodes : List Node → Type 0
AreNodes [] = ⊤
AreNodes (n ∷ ns) = IsNode n ns × AreNodes ns

-- ---- from the rules

no_fault : (o : Option TreeRule) (i : ℕ) (later : Option TreeFault) → fault_or o i later ≡ None → (o ≡ None) × (later ≡ None)
no_fault None i later e = (refl, e)
no_fault (Some rule) i later e = cc

same_none : (s : Same) → asks_same s ≡ false → s ≡ same.None
same_none same.None e = refl
same_none same.Unit e = absurd (true≢false e)
same_none same.Site e = absurd (true≢false e)
same_none same.Crew e = absurd (true≢false e)

not_both : (a b : Bool) → not (a && b) ≡ true → a ≡ true → b ≡ false
not_both true true e f = absurd (true≢false (sym e))
not_both true false e f = refl
not_both false b e f = absurd (true≢false (sym f))

or_left : (a b : Bool) → (a || not b) ≡ true → b ≡ true → a ≡ true
or_left true b e f = refl
or_left false true e f = absurd (true≢false (sym e))
or_left false false e f = absurd (true≢false (sym f))

-- what the rules at a node say of it
pub record IsRuled (before : Option Node) (n : Node) : Type 0 where
  pub order : is_in_order before n ≡ true
  pub shallow : n.depth ≤ depth_limit
  pub plain : n.kind ≡ Leaf → n.same ≡ same.None

ruled : (i leaves : ℕ) (before : Option Node) (n : Node) (ns : List Node) → first_broken (node_rules i leaves before n ns) ≡ None → IsRuled before n
ruled i leaves before n ns e =
    let rules = node_rules i leaves before n ns in
    let a = hold rules e in
    let b = hold (others rules) a.1 in
    let c = hold (others (others rules)) b.1 in
    let p = and_parts (is_in_order before n) (not (is_leaf n.kind && asks_same n.same)) b.0 in
    record { order = p.0; shallow = leb-true n.depth depth_limit c.0; plain = λ leaf. same_none n.same (not_both (is_leaf n.kind) (asks_same n.same) p.1 (ap is_leaf leaf)) }

next_of : (n m : Node) → is_in_order (Some n) m ≡ true → (1 ≤ m.depth) × (m.depth ≤ n.depth + 1) × (n.kind ≡ Leaf → m.depth ≤ n.depth)
next_of n m e =
    let p = and_parts (nat_le 1 m.depth && nat_le m.depth (n.depth + 1)) (nat_le m.depth n.depth || not (is_leaf n.kind)) e in
    let q = and_parts (nat_le 1 m.depth) (nat_le m.depth (n.depth + 1)) p.0 in
    (leb-true 1 m.depth q.0, leb-true m.depth (n.depth + 1) q.1, λ leaf. leb-true m.depth n.depth (or_left (nat_le m.depth n.depth) (is_leaf n.kind) p.1 (ap is_leaf leaf)))

-- the nodes behind a node: they keep the rules, and the first stands well behind it
behind : (size i leaves : ℕ) (before : Node) (ns : List Node) → node_fault size i leaves (Some before) ns ≡ None → AreNodes ns × IsNext before ns
behind size i leaves before [] e = (tt, tt)
behind size i leaves before (n ∷ ns) e =
    let f = no_fault (first_broken (node_rules i leaves (Some before) n ns)) i (node_fault size (i + 1) (leaves + leaf_bit n) (Some n) ns) e in
    let here = ruled i leaves (Some before) n ns f.0 in
    let rest = behind size (i + 1) (leaves + leaf_bit n) n ns f.1 in
    ((record { shallow = here.shallow; plain = here.plain; next = rest.1 }, rest.0), next_of before n here.order)

counted_at_end : (leaves size : ℕ) (fault : TreeFault) (b : Bool) → (leaves == size) ≡ b → (if b then None else Some fault) ≡ None → leaves ≡ size
counted_at_end leaves size fault true same e = eqb-true leaves size same
counted_at_end leaves size fault false same e = cc

counted : (size i leaves : ℕ) (before : Option Node) (ns : List Node) → node_fault size i leaves before ns ≡ None → leaves + leaf_nodes ns ≡ size
counted size i leaves before [] e = let end : leaves ≡ size = counted_at_end leaves size (record { rule = Leaves; node = i }) (leaves == size) refl e in omega (arith, end)
counted size i leaves before (n ∷ ns) e =
    let f = no_fault (first_broken (node_rules i leaves before n ns)) i (node_fault size (i + 1) (leaves + leaf_bit n) (Some n) ns) e in
    let rest = counted size (i + 1) (leaves + leaf_bit n) (Some n) ns f.1 in
    omega (arith, rest)

-- nodes of a tree: they begin at the root, and each leaf node has a leaf
pub record IsTree (n : Node) (ns : List Node) (size : ℕ) : Type 0 where
  pub root : n.depth ≡ 0
  pub nodes : AreNodes (n ∷ ns)
  pub leaves : leaf_nodes (n ∷ ns) ≡ size

pub tree_kept : (n : Node) (ns : List Node) (size : ℕ) → tree_fault (n ∷ ns) size ≡ None → IsTree n ns size
tree_kept n ns size e =
    let f = no_fault (first_broken (node_rules 0 0 None n ns)) 0 (node_fault size 1 (0 + leaf_bit n) (Some n) ns) e in
    let here = ruled 0 0 None n ns f.0 in
    let rest = behind size 1 (0 + leaf_bit n) n ns f.1 in
    let count = counted size 0 0 None (n ∷ ns) e in
    record { root = eqb-true n.depth 0 here.order; nodes = (record { shallow = here.shallow; plain = here.plain; next = rest.1 }, rest.0); leaves = omega (arith, count) }

pub some_node : (size : ℕ) → tree_fault [] size ≡ None → ⊥
some_node size e = cc
