-- Which leaves are chosen together: the tree of a group of well-formed tables has a pattern, and in each some leaf is chosen.
use Rattle.std.proofs.Common.{◌≡◌, ℕ, ◌+◌, ◌≤◌, Bool, true, false, ◌||◌, List, [], ◌∷◌, ◌++◌, map, replicate, length, Option, Some, None, inl, inr, refl, sym, subst, arith, is_some}
use Rattle.std.proofs.lemmas.Bool.{false≢true}
use Rattle.std.proofs.lemmas.List.{length-map}
use Rattle.std.specs.Prelude.{Contains}
use Rattle.desk_base.specs.rows.Types.{Tables, GroupRow, Leaf, NodeKind}
use Rattle.desk_base.specs.declared.rows.groups.NodeKind.TheVariants.{All, Any, Leaf as LeafNode}
use Rattle.desk_base.specs.meaning.Trees.{Tree, Trees, leaf, none, tree_and, tree_by, tree_of, leaf_count, leaf_counts, is_leaf, patterns, all_patterns, any_patterns}
use Rattle.desk_base.specs.meaning.Picks.{choices_of, pattern_of}
use Rattle.desk_base.specs.rules.Sound.{AreWellFormed}
use Rattle.desk_base.specs.search.Listing.{BeginsPattern}
use Rattle.desk_base.proofs.lists.Members.{IsIn, in-append, in-map, in-flat_map, in_left, in_right, in_mapped, in_flat, in_from_contains, contains_from_in}
use Rattle.desk_base.proofs.meaning.Shapes.{sound_group}
use Rattle.desk_base.proofs.meaning.Patterns.{length-pattern}
use Rattle.desk_base.proofs.meaning.SoundTrees.{has_trees, AllTrees, group_tree_has}

-- ---- there is a pattern

abbrev HasPattern : Tree → Type 0
HasPattern t = (p : List Bool) × IsIn p (patterns t)

joined : (ts : Trees) → AllTrees HasPattern ts → (p : List Bool) × IsIn p (all_patterns ts)
joined none h = ([], inl refl)
joined (tree_and t ts) h =
    let a = h.0 in
    let b = joined ts h.1 in
    (a.0 ++ b.0, in_flat (λ p. map (λ q. p ++ q) (all_patterns ts)) (a.0 ++ b.0) a.0 (patterns t) a.1 (in_mapped (λ q. a.0 ++ q) b.0 (all_patterns ts) b.1))

of_first : (t : Tree) (ts : Trees) → HasPattern t → (p : List Bool) × IsIn p (any_patterns (tree_and t ts))
of_first t ts a =
    (a.0 ++ replicate (leaf_counts ts) false, in_left (a.0 ++ replicate (leaf_counts ts) false) (map (λ p. p ++ replicate (leaf_counts ts) false) (patterns t)) _ (in_mapped (λ p. p ++ replicate (leaf_counts ts) false) a.0 (patterns t) a.1))

has_pattern : (k : NodeKind) (ts : Trees) → AllTrees HasPattern ts → (is_leaf k || has_trees ts) ≡ true → HasPattern (tree_by k ts)
has_pattern All ts h e = joined ts h
has_pattern Any none h e = absurd (false≢true e)
has_pattern Any (tree_and t ts) h e = of_first t ts h.0
has_pattern LeafNode ts h e = (true ∷ [], inl refl)

-- no pick at all begins a pattern
pub nothing_begins : (t : Tables) (g : GroupRow) → AreWellFormed t → Contains t.groups g → BeginsPattern (tree_of g.nodes) []
nothing_begins t g s c =
    let h = group_tree_has HasPattern has_pattern t g s c in
    (h.0, contains_from_in (patterns (tree_of g.nodes)) h.0 h.1)

-- ---- in each pattern a leaf is chosen

abbrev Chooses : Tree → Type 0
Chooses t = (p : List Bool) → IsIn p (patterns t) → IsIn true p

chosen_of_all : (ts : Trees) → AllTrees Chooses ts → has_trees ts ≡ true → (p : List Bool) → IsIn p (all_patterns ts) → IsIn true p
chosen_of_all none h e p i = absurd (false≢true e)
chosen_of_all (tree_and t ts) h e p i =
    let a = in-flat_map (λ a. map (λ b. a ++ b) (all_patterns ts)) p (patterns t) i in
    let b = in-map (λ b. a.0 ++ b) p (all_patterns ts) a.2 in
    subst (IsIn true) (sym b.2) (in_left true a.0 b.0 (h.0 a.0 a.1))

chosen_of_any : (ts : Trees) → AllTrees Chooses ts → (p : List Bool) → IsIn p (any_patterns ts) → IsIn true p
chosen_of_any none h p i = absurd i
chosen_of_any (tree_and t ts) h p i =
    elim (in-append p (map (λ a. a ++ replicate (leaf_counts ts) false) (patterns t)) (map (λ a. replicate (leaf_count t) false ++ a) (any_patterns ts)) i) [
      | inl j ↦
          let k = in-map (λ a. a ++ replicate (leaf_counts ts) false) p (patterns t) j in
          subst (IsIn true) (sym k.2) (in_left true k.0 (replicate (leaf_counts ts) false) (h.0 k.0 k.1))
      | inr j ↦
          let k = in-map (λ a. replicate (leaf_count t) false ++ a) p (any_patterns ts) j in
          subst (IsIn true) (sym k.2) (in_right true (replicate (leaf_count t) false) k.0 (chosen_of_any ts h.1 k.0 k.1))
    ]

of_leaf : Chooses leaf
of_leaf p (inl i) = subst (IsIn true) (sym i) (inl refl)
of_leaf p (inr i) = absurd i

chooses : (k : NodeKind) (ts : Trees) → AllTrees Chooses ts → (is_leaf k || has_trees ts) ≡ true → Chooses (tree_by k ts)
chooses All ts h e = chosen_of_all ts h e
chooses Any ts h e = chosen_of_any ts h
chooses LeafNode ts h e = of_leaf

-- ---- choices

-- no more leaves are chosen than there are
pub choices-le-leaves : (i : ℕ) (leaves : List Leaf) (picks : List (Option ℕ)) → length (choices_of i leaves picks) ≤ length leaves
choices-le-leaves i [] picks = omega arith
choices-le-leaves i (l ∷ ls) [] = omega arith
choices-le-leaves i (l ∷ ls) (None ∷ picks) = omega (arith, choices-le-leaves (i + 1) ls picks)
choices-le-leaves i (l ∷ ls) (Some r ∷ picks) = omega (arith, choices-le-leaves (i + 1) ls picks)

-- a pick among those of the leaves chooses one
some_choice : (i : ℕ) (leaves : List Leaf) (picks : List (Option ℕ)) → length picks ≤ length leaves → IsIn true (pattern_of picks) → 1 ≤ length (choices_of i leaves picks)
some_choice i leaves [] h k = absurd k
some_choice i [] (p ∷ picks) h k = absurd (omega arith)
some_choice i (l ∷ ls) (Some r ∷ picks) h k = omega arith
some_choice i (l ∷ ls) (None ∷ picks) h (inl e) = absurd (false≢true (sym e))
some_choice i (l ∷ ls) (None ∷ picks) h (inr k) = some_choice (i + 1) ls picks (omega arith) k

-- picks of one of the patterns of a group of well-formed tables choose a leaf
pub some_chosen : (t : Tables) (g : GroupRow) (picks : List (Option ℕ)) → AreWellFormed t → Contains t.groups g → Contains (patterns (tree_of g.nodes)) (pattern_of picks) → 1 ≤ length (choices_of 0 g.leaves picks)
some_chosen t g picks s c p =
    let i = in_from_contains (patterns (tree_of g.nodes)) (pattern_of picks) p in
    let a = length-pattern (tree_of g.nodes) (pattern_of picks) i in
    let b = (sound_group t g s c).leaves in
    let d = length-map picks (λ (x : Option ℕ). is_some x) in
    some_choice 0 g.leaves picks (omega arith) (group_tree_has Chooses chooses t g s c (pattern_of picks) i)
