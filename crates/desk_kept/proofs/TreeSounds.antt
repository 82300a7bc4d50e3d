-- The data of a tree are sound, and nest as deep as its levels allow.
use Rattle.std.proofs.Common.{◌≡◌, ℕ, suc, ◌+◌, ◌*◌, ◌≤◌, nat_lt, Bool, true, false, List, [], ◌∷◌, length, codes, All, Some, None, refl, arith, if◌then◌else◌}
use Rattle.std.specs.Bool.{⊤}
use Rattle.std.proofs.lemmas.Bool.{ltb-true}
use Rattle.std.proofs.lemmas.List.Elements.{All-head, All-tail}
use Rattle.json.proofs.Printed.Utf8.{IsUtf8-are_ascii}
use Rattle.serde_json.specs.Data.{Data, depth, items_depth}
use Rattle.serde_json.specs.View.{items_of}
use Rattle.desk_base.specs.declared.rows.groups.Node.{Node}
use Rattle.desk_base.specs.declared.rows.groups.Leaf.{Leaf}
use Rattle.desk_base.specs.declared.rows.groups.NodeKind.{NodeKind}
use Rattle.desk_base.specs.declared.rows.groups.NodeKind.TheVariants as kind
use Rattle.desk_base.specs.declared.rows.groups.Same.{Same}
use Rattle.desk_base.specs.declared.rows.groups.Same.TheVariants as same
use Rattle.desk_base.specs.rules.Limits.{depth_limit}
use Rattle.desk_base.specs.rules.TreeRules.{tree_fault}
use Rattle.desk_json.specs.Values.{list_of}
use Rattle.desk_kept.specs.Groups.{same_data, inner_data, outer_data, node_data, Placed, children, siblings_after, first_leaf, rest_of, leaves_after, trees_of, tree_data}
use Rattle.desk_kept.specs.TypedGroups.{IsLeaf}
use Rattle.desk_kept.proofs.ReadBack.{IsSound, AreSound}
use Rattle.desk_kept.proofs.Present.{Entries, IsFine, present_fine, present_rises}
use Rattle.desk_kept.proofs.LeafLaws.{leaf_kept}
use Rattle.desk_kept.proofs.TreeShapes.{AreNodes, tree_kept, some_node}

-- sound data, that nest the less the deeper they begin: two levels for each node, and four for a leaf
pub record IsFit (k : ℕ) (d : Data) : Type 0 where
  pub sound : IsSound d
  pub shallow : depth d + 2 * k ≤ 14

abbrev AreFit : List Placed → Type 0
AreFit [] = ⊤
AreFit (p ∷ ps) = IsFit p.depth p.data_of × AreFit ps

fit_if : (b : Bool) (ps qs : List Placed) → AreFit ps → AreFit qs → AreFit (if b then ps else qs)
fit_if true ps qs h k = h
fit_if false ps qs h k = k

siblings_fit : (d : ℕ) (ps : List Placed) → AreFit ps → AreFit (siblings_after d ps)
siblings_fit d [] h = tt
siblings_fit d (p ∷ ps) h = fit_if (nat_lt d p.depth) (siblings_after d ps) (p ∷ ps) (siblings_fit d ps h.1) h

-- children of a node of this depth
abbrev AreChildren : ℕ → List Data → Type 0
AreChildren d ds = AreSound (items_of ds) × (items_depth (items_of ds) + 2 * d ≤ 12)

children_if : (d : ℕ) (p : Placed) (ds : List Data) (b : Bool) → nat_lt d p.depth ≡ b → d ≤ depth_limit → IsFit p.depth p.data_of → AreChildren d ds → AreChildren d (if b then p.data_of ∷ ds else [])
children_if d p ds true e small fit rest = ((fit.sound, rest.0), omega (arith, fit.shallow, rest.1, ltb-true d p.depth e))
children_if d p ds false e small fit rest = (tt, omega (arith, small))

children_fit : (d : ℕ) (ps : List Placed) → d ≤ depth_limit → AreFit ps → AreChildren d (children d ps)
children_fit d [] small h = (tt, omega (arith, small))
children_fit d (p ∷ ps) small h = children_if d p (children d ps) (nat_lt d p.depth) refl small h.0 (children_fit d ps small h.1)

same_fine : (n : ℕ) (s : Same) → IsFine n (same_data s)
same_fine n same.None = tt
same_fine n same.Unit = (IsUtf8-are_ascii _ refl, omega arith)
same_fine n same.Site = (IsUtf8-are_ascii _ refl, omega arith)
same_fine n same.Crew = (IsUtf8-are_ascii _ refl, omega arith)

abbrev inner_entries : List ℕ → List Data → Same → Entries
inner_entries name ds s = (name, Some (list_of ds)) ∷ (codes "same", same_data s) ∷ []

all_fit : (d : ℕ) (ds : List Data) (s : Same) → AreChildren d ds → IsFit d (inner_data (codes "all") ds s)
all_fit d ds s h =
    let n : ℕ = suc (items_depth (items_of ds)) in
    let fine = present_fine n (inner_entries (codes "all") ds s) (refl, (h.0, omega arith), (refl, same_fine n s, tt)) in
    record { sound = (fine.0, present_rises (inner_entries (codes "all") ds s) refl); shallow = omega (arith, h.1, fine.1) }

any_fit : (d : ℕ) (ds : List Data) (s : Same) → AreChildren d ds → IsFit d (inner_data (codes "any") ds s)
any_fit d ds s h =
    let n : ℕ = suc (items_depth (items_of ds)) in
    let fine = present_fine n (inner_entries (codes "any") ds s) (refl, (h.0, omega arith), (refl, same_fine n s, tt)) in
    record { sound = (fine.0, present_rises (inner_entries (codes "any") ds s) refl); shallow = omega (arith, h.1, fine.1) }

first_fit : (d : ℕ) (ls : List Leaf) → d ≤ depth_limit → All IsLeaf ls → IsFit d (outer_data (first_leaf ls))
first_fit d [] small whole = record { sound = ((refl, tt, tt), refl); shallow = omega (arith, small) }
first_fit d (l ∷ ls) small whole =
    let kept = leaf_kept l (All-head IsLeaf l ls whole) in
    record { sound = ((refl, kept.sound, tt), refl); shallow = omega (arith, small, kept.deep) }

node_fit : (d : ℕ) (k : NodeKind) (s : Same) (ds : List Data) (ls : List Leaf) → d ≤ depth_limit → All IsLeaf ls → AreChildren d ds → IsFit d (node_data k s ds (first_leaf ls))
node_fit d kind.All s ds ls small whole h = all_fit d ds s h
node_fit d kind.Any s ds ls small whole h = any_fit d ds s h
node_fit d kind.Leaf s ds ls small whole h = first_fit d ls small whole

rest_whole : (ls : List Leaf) → All IsLeaf ls → All IsLeaf (rest_of ls)
rest_whole [] h = h
rest_whole (l ∷ ls) h = All-tail IsLeaf l ls h

after_whole : (k : NodeKind) (ls : List Leaf) → All IsLeaf ls → All IsLeaf (leaves_after k ls)
after_whole kind.All ls h = h
after_whole kind.Any ls h = h
after_whole kind.Leaf ls h = rest_whole ls h

trees_fit : (ns : List Node) (ls : List Leaf) → AreNodes ns → All IsLeaf ls → AreFit (trees_of ns ls)
trees_fit [] ls nodes whole = tt
trees_fit (n ∷ ns) ls nodes whole =
    let rest = leaves_after n.kind ls in
    let later = trees_fit ns rest nodes.1 (after_whole n.kind ls whole) in
    let below = children_fit n.depth (trees_of ns rest) nodes.0.shallow later in
    (node_fit n.depth n.kind n.same (children n.depth (trees_of ns rest)) ls nodes.0.shallow whole below, siblings_fit n.depth (trees_of ns rest) later)

pub tree_sound : (ns : List Node) (ls : List Leaf) → tree_fault ns (length ls) ≡ None → All IsLeaf ls → IsFit 0 (tree_data ns ls)
tree_sound [] ls e whole = absurd (some_node (length ls) e)
tree_sound (n ∷ ns) ls e whole =
    let is = tree_kept n ns (length ls) e in
    let fit = (trees_fit (n ∷ ns) ls is.nodes whole).0 in
    record { sound = fit.sound; shallow = omega (arith, fit.shallow, is.root) }
