-- A tree is read as the nodes and leaves that it was made of.
use Rattle.std.proofs.Common.{◌≡◌, ℕ, suc, ◌+◌, ◌-◌, ◌≤◌, nat_lt, Bool, true, false, List, [], ◌∷◌, ◌++◌, length, codes, All, None, Result, Ok, Err, refl, sym, ap, ◌∙◌, arith, append-nil, append_assoc, lt-ltb, if◌then◌else◌}
use Rattle.std.specs.Bool.{⊤}
use Rattle.std.proofs.lemmas.Bool.{ltb-true}
use Rattle.std.proofs.lemmas.List.Elements.{All-head, All-tail}
use Rattle.serde_json.specs.Data.{Data}
use Rattle.serde_json.specs.Find.{get}
use Rattle.serde_json.specs.View.{items_of}
use Rattle.desk_base.specs.declared.asked.rules.Field.{Field}
use Rattle.desk_base.specs.declared.rows.groups.Node.{Node}
use Rattle.desk_base.specs.declared.rows.groups.Leaf.{Leaf}
use Rattle.desk_base.specs.declared.rows.groups.NodeKind.{NodeKind}
use Rattle.desk_base.specs.declared.rows.groups.NodeKind.TheVariants as kind
use Rattle.desk_base.specs.declared.rows.groups.Same.{Same}
use Rattle.desk_base.specs.declared.rows.groups.Same.TheVariants as same
use Rattle.desk_base.specs.rules.Limits.{depth_limit}
use Rattle.desk_base.specs.rules.TreeRules.{tree_fault}
use Rattle.desk_json.specs.declared.trees.Tree.{Tree}
use Rattle.desk_json.specs.declared.faults.BodyError.{BodyError}
use Rattle.desk_json.specs.Faults.{◌>>=◌}
use Rattle.desk_json.specs.Reading.{text_in}
use Rattle.desk_json.specs.Forms.{under_or}
use Rattle.desk_json.specs.TreeReading.{same_named, same_in, with_node, with_leaf, inner_in, outer_in, node_in, children_of, each_onto, tree_levels, tree_onto, tree_in}
use Rattle.desk_kept.specs.Groups.{inner_data, outer_data, Placed, children, siblings_after, leaves_after, trees_of, tree_data}
use Rattle.desk_kept.specs.Leaves.{leaf_data}
use Rattle.desk_kept.specs.TypedGroups.{IsLeaf}
use Rattle.desk_kept.proofs.LeafLaws.{leaf_kept}
use Rattle.desk_kept.proofs.TreeShapes.{leaf_nodes, IsNext, IsNode, AreNodes, IsTree, tree_kept, some_node}
use Rattle.desk_kept.proofs.PlacedTrees.{Falls, lower, BeginsBy, trees_fall, no_children}

after_both : {X Y Z : Type 0} (r : Result X BodyError) (f : X → Result Y BodyError) (g : Y → Result Z BodyError) → (r >>= f) >>= g ≡ r >>= λ x. f x >>= g
after_both (Ok x) f g = refl
after_both (Err why) f g = refl

-- ---- one level

-- what is read onto a tree where a node stands at a depth
abbrev level_of : ℕ → Field → Tree → Data → Result Tree BodyError
level_of k f before d = node_in k f before d >>= λ begun. each_onto (tree_onto (tree_levels - (k + 1)) f) begun (children_of (get (codes "all") d) (get (codes "any") d))

level_from : (k levels below : ℕ) (f : Field) (before : Tree) (d : Data) → levels ≡ suc below → tree_levels - suc below ≡ k → below ≡ tree_levels - (k + 1) → tree_onto levels f before d ≡ level_of k f before d
unfolding tree_onto
level_from k levels below f before d e depth rest =
    ap (λ n. tree_onto n f before d) e
    ∙ ap (λ n. node_in n f before d >>= λ begun. each_onto (tree_onto below f) begun (children_of (get (codes "all") d) (get (codes "any") d))) depth
    ∙ ap (λ n. node_in k f before d >>= λ begun. each_onto (tree_onto n f) begun (children_of (get (codes "all") d) (get (codes "any") d))) rest

one_level : (k : ℕ) (f : Field) (before : Tree) (d : Data) → k ≤ depth_limit → tree_onto (tree_levels - k) f before d ≡ level_of k f before d
one_level k f before d h = level_from k (tree_levels - k) (254 - k) f before d (omega (arith, h)) (omega (arith, h)) (omega (arith, h))

all_node : (k : ℕ) (f : Field) (before : Tree) (ds : List Data) (s : Same) → level_of k f before (inner_data (codes "all") ds s) ≡ each_onto (tree_onto (tree_levels - (k + 1)) f) (with_node k kind.All s before) (items_of ds)
unfolding node_in inner_in under_or same_in same_named text_in
all_node k f before ds same.None = refl
all_node k f before ds same.Unit = refl
all_node k f before ds same.Site = refl
all_node k f before ds same.Crew = refl

any_node : (k : ℕ) (f : Field) (before : Tree) (ds : List Data) (s : Same) → level_of k f before (inner_data (codes "any") ds s) ≡ each_onto (tree_onto (tree_levels - (k + 1)) f) (with_node k kind.Any s before) (items_of ds)
unfolding node_in inner_in under_or same_in same_named text_in
any_node k f before ds same.None = refl
any_node k f before ds same.Unit = refl
any_node k f before ds same.Site = refl
any_node k f before ds same.Crew = refl

leaf_node : (k : ℕ) (f : Field) (before : Tree) (l : Leaf) → IsLeaf l → level_of k f before (outer_data (leaf_data l)) ≡ Ok (with_leaf l (with_node k kind.Leaf same.None before))
unfolding node_in outer_in
leaf_node k f before l is = rw ((leaf_kept l is).reads f) refl

-- ---- trees one after another

-- each is read with the levels that its depth leaves
abbrev pub trees_onto : Field → Tree → List Placed → Result Tree BodyError
trees_onto f before [] = Ok before
trees_onto f before (p ∷ ps) = tree_onto (tree_levels - p.depth) f before p.data_of >>= λ after. trees_onto f after ps

-- the children of a node come first, one level below it, and then what follows them
cut_by : (f : Field) (d : ℕ) (before : Tree) (p : Placed) (ps : List Placed) (b : Bool) → nat_lt d p.depth ≡ b → Falls (d + 1) (p ∷ ps)
    → ((a : Tree) → trees_onto f a ps ≡ each_onto (tree_onto (tree_levels - (d + 1)) f) a (items_of (children d ps)) >>= λ c. trees_onto f c (siblings_after d ps))
    → trees_onto f before (p ∷ ps) ≡ each_onto (tree_onto (tree_levels - (d + 1)) f) before (items_of (children d (p ∷ ps))) >>= λ c. trees_onto f c (siblings_after d (p ∷ ps))
cut_by f d before p ps true e falls later =
    let deep : p.depth ≡ d + 1 = omega (arith, falls.0, ltb-true d p.depth e) in
    let one = tree_onto (tree_levels - (d + 1)) f in
    rw (e, deep)
    (on_results (one before p.data_of) (λ after. trees_onto f after ps) (λ after. each_onto one after (items_of (children d ps)) >>= λ c. trees_onto f c (siblings_after d ps)) later
    ∙ sym (after_both (one before p.data_of) (λ after. each_onto one after (items_of (children d ps))) (λ c. trees_onto f c (siblings_after d ps))))
  where
    on_results : {X Y : Type 0} (r : Result X BodyError) (g h : X → Result Y BodyError) → ((x : X) → g x ≡ h x) → r >>= g ≡ r >>= h
    on_results (Ok x) g h same = same x
    on_results (Err why) g h same = refl
cut_by f d before p ps false e falls later = rw e refl

cut : (f : Field) (d : ℕ) (ps : List Placed) → Falls (d + 1) ps → (before : Tree)
    → trees_onto f before ps ≡ each_onto (tree_onto (tree_levels - (d + 1)) f) before (items_of (children d ps)) >>= λ c. trees_onto f c (siblings_after d ps)
cut f d [] falls before = refl
cut f d (p ∷ ps) falls before = cut_by f d before p ps (nat_lt d p.depth) refl falls (λ a. cut f d ps (lower p.depth (d + 1) ps falls.0 falls.1) a)

-- ---- nodes in preorder

-- a tree with further nodes and leaves
abbrev pub joined : Tree → List Node → List Leaf → Tree
joined before ns ls = record { nodes = before.nodes ++ ns; leaves = before.leaves ++ ls }

abbrev node_of : ℕ → NodeKind → Same → Node
node_of d k s = record { depth = d; kind = k; same = s }

more_nodes : (before : Tree) (n : Node) (ns : List Node) (ls : List Leaf) → joined (record { nodes = before.nodes ++ n ∷ []; leaves = before.leaves }) ns ls ≡ joined before (n ∷ ns) ls
more_nodes before n ns ls = ap (λ l. record { nodes = l; leaves = before.leaves ++ ls }) (append_assoc before.nodes (n ∷ []) ns)

more_leaves : (before : Tree) (n : Node) (ns : List Node) (l : Leaf) (ls : List Leaf) → joined (record { nodes = before.nodes ++ n ∷ []; leaves = before.leaves ++ l ∷ [] }) ns ls ≡ joined before (n ∷ ns) (l ∷ ls)
more_leaves before n ns l ls =
    ap (λ a. record { nodes = a; leaves = (before.leaves ++ l ∷ []) ++ ls }) (append_assoc before.nodes (n ∷ []) ns)
    ∙ ap (λ a. record { nodes = before.nodes ++ n ∷ ns; leaves = a }) (append_assoc before.leaves (l ∷ []) ls)

begins : (n : Node) (ns : List Node) → IsNext n ns → BeginsBy (n.depth + 1) ns
begins n [] h = tt
begins n (m ∷ ms) h = h.1

begins_beside : (n : Node) (ns : List Node) → n.kind ≡ kind.Leaf → IsNext n ns → BeginsBy n.depth ns
begins_beside n [] leaf h = tt
begins_beside n (m ∷ ms) leaf h = h.2 leaf

-- what is read of the nodes behind a node, whatever was read before
abbrev IsReadOn : Field → List Node → List Leaf → Type 0
IsReadOn f ns ls = (before : Tree) → trees_onto f before (trees_of ns ls) ≡ Ok (joined before ns ls)

module _ (f : Field) (d : ℕ) (s : Same) (ns : List Node) where
  all_step : (ls : List Leaf) → IsNode (node_of d kind.All s) ns → IsReadOn f ns ls → IsReadOn f (node_of d kind.All s ∷ ns) ls
  all_step ls is later before =
      let ps = trees_of ns ls in
      let begun = with_node d kind.All s before in
      ap (λ r. r >>= λ after. trees_onto f after (siblings_after d ps)) (one_level d f before (inner_data (codes "all") (children d ps) s) is.shallow ∙ all_node d f before (children d ps) s)
      ∙ sym (cut f d ps (trees_fall ns ls (d + 1) (begins (node_of d kind.All s) ns is.next)) begun) ∙ later begun ∙ ap (λ t. Ok t) (more_nodes before (node_of d kind.All s) ns ls)

  any_step : (ls : List Leaf) → IsNode (node_of d kind.Any s) ns → IsReadOn f ns ls → IsReadOn f (node_of d kind.Any s ∷ ns) ls
  any_step ls is later before =
      let ps = trees_of ns ls in
      let begun = with_node d kind.Any s before in
      ap (λ r. r >>= λ after. trees_onto f after (siblings_after d ps)) (one_level d f before (inner_data (codes "any") (children d ps) s) is.shallow ∙ any_node d f before (children d ps) s)
      ∙ sym (cut f d ps (trees_fall ns ls (d + 1) (begins (node_of d kind.Any s) ns is.next)) begun) ∙ later begun ∙ ap (λ t. Ok t) (more_nodes before (node_of d kind.Any s) ns ls)

  leaf_step : (l : Leaf) (ls : List Leaf) → IsNode (node_of d kind.Leaf s) ns → IsLeaf l → IsReadOn f ns ls → IsReadOn f (node_of d kind.Leaf s ∷ ns) (l ∷ ls)
  leaf_step l ls is whole later before =
      let ps = trees_of ns ls in
      let begun = with_leaf l (with_node d kind.Leaf same.None before) in
      let plain : s ≡ same.None = is.plain refl in
      ap (λ r. r >>= λ after. trees_onto f after (siblings_after d ps)) (one_level d f before (outer_data (leaf_data l)) is.shallow ∙ leaf_node d f before l whole)
      ∙ ap (λ q. trees_onto f begun q) (no_children d ps (trees_fall ns ls d (begins_beside (node_of d kind.Leaf s) ns refl is.next))).1
      ∙ later begun ∙ ap (λ t. Ok t) (more_leaves before (node_of d kind.Leaf same.None) ns l ls) ∙ ap (λ x. Ok (joined before (node_of d kind.Leaf x ∷ ns) (l ∷ ls))) (sym plain)

-- one node more
step : (f : Field) (d : ℕ) (k : NodeKind) (s : Same) (ns : List Node) (ls : List Leaf) → IsNode (node_of d k s) ns → All IsLeaf ls → leaf_nodes (node_of d k s ∷ ns) ≡ length ls
    → ((rest : List Leaf) → All IsLeaf rest → leaf_nodes ns ≡ length rest → IsReadOn f ns rest) → IsReadOn f (node_of d k s ∷ ns) ls
step f d kind.All s ns ls is whole count later = all_step f d s ns ls is (later ls whole (omega (arith, count)))
step f d kind.Any s ns ls is whole count later = any_step f d s ns ls is (later ls whole (omega (arith, count)))
step f d kind.Leaf s ns [] is whole count later = absurd (omega (arith, count))
step f d kind.Leaf s ns (l ∷ ls) is whole count later = leaf_step f d s ns l ls is (All-head IsLeaf l ls whole) (later ls (All-tail IsLeaf l ls whole) (omega (arith, count)))

preorder : (f : Field) (ns : List Node) (ls : List Leaf) → AreNodes ns → All IsLeaf ls → leaf_nodes ns ≡ length ls → IsReadOn f ns ls
preorder f [] [] nodes whole count before = rw (append-nil before.nodes, append-nil before.leaves) refl
preorder f [] (l ∷ ls) nodes whole count before = absurd (omega (arith, count))
preorder f (n ∷ ns) ls nodes whole count before = step f n.depth n.kind n.same ns ls nodes.0 whole count (λ rest w c. preorder f ns rest nodes.1 w c) before

-- ---- the root

abbrev AreDeep : List Placed → Type 0
AreDeep [] = ⊤
AreDeep (p ∷ ps) = (1 ≤ p.depth) × AreDeep ps

deep_if : (b : Bool) (ps qs : List Placed) → AreDeep ps → AreDeep qs → AreDeep (if b then ps else qs)
deep_if true ps qs h k = h
deep_if false ps qs h k = k

deep_siblings : (d : ℕ) (ps : List Placed) → AreDeep ps → AreDeep (siblings_after d ps)
deep_siblings d [] h = tt
deep_siblings d (p ∷ ps) h = deep_if (nat_lt d p.depth) (siblings_after d ps) (p ∷ ps) (deep_siblings d ps h.1) h

none_beside : (ps : List Placed) → AreDeep ps → siblings_after 0 ps ≡ []
none_beside [] h = refl
none_beside (p ∷ ps) h = let e : nat_lt 0 p.depth ≡ true = lt-ltb 0 p.depth (omega (arith, h.0)) in rw e (none_beside ps h.1)

deep_trees : (n : Node) (ns : List Node) (ls : List Leaf) → AreNodes (n ∷ ns) → AreDeep (trees_of ns ls)
deep_trees n [] ls h = tt
deep_trees n (m ∷ ms) ls h = (h.0.next.0, deep_siblings m.depth (trees_of ms (leaves_after m.kind ls)) (deep_trees m ms (leaves_after m.kind ls) h.1))

then_done : (r : Result Tree BodyError) → r >>= (λ x. Ok x) ≡ r
then_done (Ok x) = refl
then_done (Err why) = refl

abbrev no_tree : Tree
no_tree = record { nodes = []; leaves = [] }

root_reads : (f : Field) (n : Node) (ns : List Node) (ls : List Leaf) → IsTree n ns (length ls) → All IsLeaf ls → tree_in f (tree_data (n ∷ ns) ls) ≡ Ok (record { nodes = n ∷ ns; leaves = ls })
unfolding tree_in
root_reads f n ns ls is whole =
    let ps = trees_of ns (leaves_after n.kind ls) in
    let alone : siblings_after n.depth ps ≡ [] = rw is.root (none_beside ps (deep_trees n ns (leaves_after n.kind ls) is.nodes)) in
    let d = tree_data (n ∷ ns) ls in
    let onto : tree_onto tree_levels f no_tree d ≡ tree_onto (tree_levels - n.depth) f no_tree d = rw is.root refl in
    onto ∙ sym (then_done (tree_onto (tree_levels - n.depth) f no_tree d))
    ∙ ap (λ q. tree_onto (tree_levels - n.depth) f no_tree d >>= λ after. trees_onto f after q) (sym alone)
    ∙ preorder f (n ∷ ns) ls is.nodes whole is.leaves no_tree

pub tree_reads : (f : Field) (ns : List Node) (ls : List Leaf) → tree_fault ns (length ls) ≡ None → All IsLeaf ls → tree_in f (tree_data ns ls) ≡ Ok (record { nodes = ns; leaves = ls })
tree_reads f [] ls e whole = absurd (some_node (length ls) e)
tree_reads f (n ∷ ns) ls e whole = root_reads f n ns ls (tree_kept n ns (length ls) e) whole
