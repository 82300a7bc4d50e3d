-- Where picks have none of a tree's patterns, by the bits with which they begin one.
use Rattle.std.proofs.Common.{◌≡◌, ℕ, zero, suc, ◌+◌, ◌<◌, ◌≤◌, Bool, List, [], ◌∷◌, ◌++◌, length, take, get_or, Option, None, is_some, ◌⊎◌, inl, inr, refl, sym, ap, ◌∙◌, subst, arith, add-one, length-append}
use Rattle.std.proofs.Math.Seq.{take-length}
use Rattle.std.proofs.lemmas.List.{length-take-le, length-map, append-nil}
use Rattle.std.specs.Prelude.{Contains}
use Rattle.desk_base.specs.declared.rows.groups.Node.{Node}
use Rattle.desk_base.specs.rules.Limits.{leaf_limit}
use Rattle.desk_base.specs.rules.TreeRules.{tree_fault}
use Rattle.desk_base.specs.meaning.Trees.{tree_of, patterns}
use Rattle.desk_base.specs.meaning.Picks.{pattern_of}
use Rattle.desk_base.specs.search.Listing.{BeginsPattern}
use Rattle.desk_base.specs.search.Verdicts.{LacksPick, Strays, IsBadShape}
use Rattle.desk_base.proofs.lists.Members.{in_from_contains}
use Rattle.desk_base.proofs.meaning.Patterns.{length-pattern}
use Rattle.desk_base.proofs.meaning.Shapes.{leaves_from_rules}
use Rattle.desk_need.proofs.Begins.{begun_few}
use Rattle.desk_need.proofs.SomePatterns.{nothing_begins, few_leaves}

-- each of the first n bits goes on with a pattern
abbrev pub BeginTo : List Node → List Bool → ℕ → Type 0
BeginTo ns bits n = (k : ℕ) → k < n → BeginsPattern (tree_of ns) (take (k + 1) bits)

module _ (ns : List Node) (size : ℕ) (sound : tree_fault ns size ≡ None) where
  -- the first k bits begin a pattern
  front_begins : (bits : List Bool) (n k : ℕ) → BeginTo ns bits n → k ≤ n → BeginsPattern (tree_of ns) (take k bits)
  front_begins bits n zero h l = nothing_begins ns size sound
  front_begins bits n (suc k) h l = subst (λ m. BeginsPattern (tree_of ns) (take m bits)) (add-one k) (h k (omega arith))

  all_begin : (bits : List Bool) → BeginTo ns bits (length bits) → BeginsPattern (tree_of ns) bits
  all_begin bits h = subst (BeginsPattern (tree_of ns)) (take-length bits) (front_begins bits (length bits) (length bits) h (omega arith))

  -- no stray lies behind the leaves
  pub begun_is_few : (bits : List Bool) (j : ℕ) → BeginTo ns bits j → j ≤ length bits → j ≤ leaf_limit
  begun_is_few bits j h l =
      let b = begun_few ns (take j bits) (front_begins bits j j h (omega arith)) in
      let front = length-take-le j bits l in
      let size_is = leaves_from_rules ns size sound in
      let few = few_leaves ns size sound in
      omega arith

  pub stray_is_bad : (bits : List Bool) (j : ℕ) → j < length bits → (BeginsPattern (tree_of ns) (take (j + 1) bits) → ⊥) → BeginTo ns bits j → IsBadShape (tree_of ns) bits j
  stray_is_bad bits j within stray h = record {
    broken = inr (within, stray);
    first = λ i l b. elim b [
      | inl lacks ↦ absurd (omega (arith, l, lacks.0, within))
      | inr strays ↦ strays.1 (front_begins bits j (i + 1) h (omega (arith, l)))
    ];
  }

  -- bits that begin a pattern and are too few lack the next one
  pub short_is_bad : (bits : List Bool) (n : ℕ) → length bits ≡ n → BeginTo ns bits n → n < size → IsBadShape (tree_of ns) bits n
  short_is_bad bits n e h short = subst (IsBadShape (tree_of ns) bits) e (shorter (subst (BeginTo ns bits) (sym e) h) (omega (arith, e, short)))
    where
      lacks : (rest : List Bool) → 0 < length rest → Contains (patterns (tree_of ns)) (bits ++ rest) → LacksPick (tree_of ns) bits (length bits) ⊎ Strays (tree_of ns) bits (length bits)
      lacks [] l c = absurd (omega (arith, l))
      lacks (next ∷ rest) l c = inl (refl, (next, rest, c))

      shorter : BeginTo ns bits (length bits) → length bits < size → IsBadShape (tree_of ns) bits (length bits)
      shorter h short =
          let b = all_begin bits h in
          let joined = length-append bits b.0 in
          let whole = length-pattern (tree_of ns) (bits ++ b.0) (in_from_contains (patterns (tree_of ns)) (bits ++ b.0) b.1) in
          let size_is = leaves_from_rules ns size sound in
          record {
            broken = lacks b.0 (omega arith) b.1;
            first = λ i l b. elim b [
              | inl lacks ↦ absurd (omega (arith, l, lacks.0))
              | inr strays ↦ strays.1 (front_begins bits (length bits) (i + 1) h (omega (arith, l)))
            ];
          }

  -- those that are enough have one
  pub long_is_pattern : (bits : List Bool) (n : ℕ) → length bits ≡ n → BeginTo ns bits n → size ≤ n → Contains (patterns (tree_of ns)) bits
  long_is_pattern bits n e h long =
      let b = all_begin bits (subst (BeginTo ns bits) (sym e) h) in
      let joined = length-append bits b.0 in
      let whole = length-pattern (tree_of ns) (bits ++ b.0) (in_from_contains (patterns (tree_of ns)) (bits ++ b.0) b.1) in
      let size_is = leaves_from_rules ns size sound in
      nothing_more b.0 (omega arith) b.1
    where
      nothing_more : (rest : List Bool) → ◌≡◌ {A = ℕ} (length rest) 0 → Contains (patterns (tree_of ns)) (bits ++ rest) → Contains (patterns (tree_of ns)) bits
      nothing_more [] e c = subst (Contains (patterns (tree_of ns))) (append-nil bits) c
      nothing_more (x ∷ rest) e c = absurd (omega (arith, e))

-- one pick more
pub pattern_of-more : (picks : List (Option ℕ)) (k : ℕ) (x : Option ℕ) → k < length picks → x ≡ get_or picks k x → pattern_of (take k picks) ++ is_some x ∷ [] ≡ take (k + 1) (pattern_of picks)
pattern_of-more [] k x l e = absurd (omega arith)
pattern_of-more (p ∷ ps) zero x l e = ap (λ y. is_some y ∷ []) e
pattern_of-more (p ∷ ps) (suc k) x l e = ap (λ bs. is_some p ∷ bs) (pattern_of-more ps k x (omega arith) e) ∙ sym (ap (λ n. take n (is_some p ∷ pattern_of ps)) (plus k))
  where
    plus : (k : ℕ) → suc k + 1 ≡ suc (k + 1)
    plus k = omega arith

pub length-pattern_of : (picks : List (Option ℕ)) → length (pattern_of picks) ≡ length picks
length-pattern_of picks = length-map picks is_some
