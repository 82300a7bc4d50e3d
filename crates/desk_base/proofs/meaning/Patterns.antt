-- How long the patterns of a tree are, and how the orders of numbers and picks join.
use Rattle.std.proofs.Common.{◌≡◌, ℕ, ◌+◌, ◌<◌, Bool, false, List, ◌++◌, map, length, replicate, Option, Some, None, inl, inr, refl, ap, ◌∙◌, arith, length-append}
use Rattle.std.proofs.lemmas.Bool.Decides.{nat_tests}
use Rattle.std.proofs.lemmas.List.{length-replicate}
use Rattle.std.specs.declared.cmp.Ordering.{Ordering}
use Rattle.std.specs.declared.cmp.Ordering.TheVariants.{Less, Equal}
use Rattle.std.specs.Ordering.{nat_cmp, ordering_then}
use Rattle.desk_base.specs.meaning.Trees.{Tree, Trees, leaf, all, any, none, tree_and, patterns, all_patterns, any_patterns, leaf_count, leaf_counts}
use Rattle.desk_base.specs.search.Order.{pick_cmp}
use Rattle.desk_base.proofs.lists.Members.{IsIn, in-append, in-map, in-flat_map}

-- ---- how long patterns are

length-joining : (p q : List Bool) (m n : ℕ) → length p ≡ m → length q ≡ n → length (p ++ q) ≡ m + n
length-joining p q m n e f = let a = length-append p q in omega arith

mutual
  pub length-pattern : (t : Tree) (p : List Bool) → IsIn p (patterns t) → length p ≡ leaf_count t
  length-pattern leaf p (inl e) = ap length e
  length-pattern leaf p (inr i) = absurd i
  length-pattern (all ts) p i = length-joined ts p i
  length-pattern (any ts) p i = length-one_of ts p i

  pub length-joined : (ts : Trees) (p : List Bool) → IsIn p (all_patterns ts) → length p ≡ leaf_counts ts
  length-joined none p (inl e) = ap length e
  length-joined none p (inr i) = absurd i
  length-joined (tree_and t ts) p i =
      let h = in-flat_map (λ a. map (λ b. a ++ b) (all_patterns ts)) p (patterns t) i in
      let k = in-map (λ b. h.0 ++ b) p (all_patterns ts) h.2 in
      ap length k.2 ∙ length-joining h.0 k.0 (leaf_count t) (leaf_counts ts) (length-pattern t h.0 h.1) (length-joined ts k.0 k.1)

  pub length-one_of : (ts : Trees) (p : List Bool) → IsIn p (any_patterns ts) → length p ≡ leaf_counts ts
  length-one_of none p i = absurd i
  length-one_of (tree_and t ts) p i =
      elim (in-append p (map (λ a. a ++ replicate (leaf_counts ts) false) (patterns t)) (map (λ a. replicate (leaf_count t) false ++ a) (any_patterns ts)) i) [
        | inl j ↦
            let k = in-map (λ a. a ++ replicate (leaf_counts ts) false) p (patterns t) j in
            ap length k.2 ∙ length-joining k.0 (replicate (leaf_counts ts) false) (leaf_count t) (leaf_counts ts) (length-pattern t k.0 k.1) (length-replicate (leaf_counts ts) false)
        | inr j ↦
            let k = in-map (λ a. replicate (leaf_count t) false ++ a) p (any_patterns ts) j in
            ap length k.2 ∙ length-joining (replicate (leaf_count t) false) k.0 (leaf_count t) (leaf_counts ts) (length-replicate (leaf_count t) false) (length-one_of ts k.0 k.1)
      ]

-- ---- orders of numbers and picks

pub nat_cmp-same : (a : ℕ) → nat_cmp a a ≡ Equal
nat_cmp-same a = grind (arith, nat_tests)

pub nat_cmp-less : (a b : ℕ) → a < b → nat_cmp a b ≡ Less
nat_cmp-less a b h = grind (arith, nat_tests)

pub pick_cmp-same : (p : Option ℕ) → pick_cmp p p ≡ Equal
pick_cmp-same None = refl
pick_cmp-same (Some a) = nat_cmp-same a

pub then-same : (a b : Ordering) → a ≡ Equal → b ≡ Less → ordering_then a b ≡ Less
then-same a b e f = ap (λ x. ordering_then x b) e ∙ f

pub then-less : (a b : Ordering) → a ≡ Less → ordering_then a b ≡ Less
then-less a b e = ap (λ x. ordering_then x b) e
