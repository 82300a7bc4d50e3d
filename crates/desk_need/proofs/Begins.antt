-- The bits begin a pattern of a tree exactly where its parts say so.
use Rattle.std.proofs.Common.{◌≡◌, ℕ, zero, suc, ◌+◌, ◌≤◌, Bool, true, false, not, ◌&&◌, ◌||◌, ◌==◌, List, [], ◌∷◌, ◌++◌, map, length, take, drop, replicate, ◌⊎◌, inl, inr, refl, sym, ap, ◌∙◌, subst, arith, zero-add, length-append}
use Rattle.std.proofs.Math.Seq.{take-add}
use Rattle.std.proofs.lemmas.Bool.{false≢true}
use Rattle.std.proofs.lemmas.Bool.Decides.{nat_tests}
use Rattle.std.proofs.lemmas.List.{length-replicate}
use Rattle.std.proofs.lemmas.List.Folds.{list_all-append}
use Rattle.std.specs.Bool.{Decides}
use Rattle.std.specs.List.{list_all}
use Rattle.std.specs.Prelude.{Contains}
use Rattle.desk_base.specs.search.Listing.{BeginsPattern}
use Rattle.desk_base.specs.declared.rows.groups.Node.{Node}
use Rattle.desk_base.specs.meaning.Trees.{Tree, Trees, leaf, all, any, none, tree_and, tree_of, leaf_count, leaf_counts, patterns, all_patterns, any_patterns}
use Rattle.desk_base.proofs.lists.Members.{IsIn, in-append, in-map, in-flat_map, in_left, in_right, in_mapped, in_flat, contains_from_in, in_from_contains}
use Rattle.desk_base.proofs.meaning.Patterns.{length-pattern}
use Rattle.desk_base.proofs.lists.Tests.{and_left, and_right, and_both}
use Rattle.desk_need.specs.Judging.{none_chosen, begins, all_begin, one_begins, begins_at}

-- ---- lists that agree where both go on

abbrev pub Agree : List Bool → List Bool → Type 0
Agree [] bits = Unit {0}
Agree (x ∷ p) [] = Unit {0}
Agree (x ∷ p) (b ∷ bits) = (x ≡ b) × Agree p bits

agree_nil : (p : List Bool) → Agree p []
agree_nil [] = tt
agree_nil (x ∷ p) = tt

agree_joined : (p q bits : List Bool) → Agree p bits → Agree q (drop (length p) bits) → Agree (p ++ q) bits
agree_joined [] q bits a b = b
agree_joined (x ∷ p) q [] a b = tt
agree_joined (x ∷ p) q (b ∷ bits) a c = (a.0, agree_joined p q bits a.1 c)

agree_left : (p q bits : List Bool) → Agree (p ++ q) bits → Agree p bits
agree_left [] q bits a = tt
agree_left (x ∷ p) q [] a = tt
agree_left (x ∷ p) q (b ∷ bits) a = (a.0, agree_left p q bits a.1)

agree_right : (p q bits : List Bool) → Agree (p ++ q) bits → Agree q (drop (length p) bits)
agree_right [] q bits a = a
agree_right (x ∷ p) q [] a = agree_nil q
agree_right (x ∷ p) q (b ∷ bits) a = agree_right p q bits a.1

agree_none : (n : ℕ) (bits : List Bool) → none_chosen n bits ≡ true → Agree (replicate n false) bits
agree_none zero bits e = tt
agree_none (suc n) [] e = tt
agree_none (suc n) (true ∷ bits) e = absurd (false≢true e)
agree_none (suc n) (false ∷ bits) e = (refl, agree_none n bits e)

none_agrees : (n : ℕ) (bits : List Bool) → Agree (replicate n false) bits → none_chosen n bits ≡ true
none_agrees zero bits a = refl
none_agrees (suc n) [] a = refl
none_agrees (suc n) (true ∷ bits) a = absurd (false≢true a.0)
none_agrees (suc n) (false ∷ bits) a = none_agrees n bits a.1

-- ---- what parts say is so

pub or_cases : (a b : Bool) → (a || b) ≡ true → (a ≡ true) ⊎ (b ≡ true)
or_cases true b e = inl refl
or_cases false b e = inr e

pub or_left : (a b : Bool) → a ≡ true → (a || b) ≡ true
or_left true b e = refl
or_left false b e = absurd (false≢true e)

pub or_right : (a b : Bool) → b ≡ true → (a || b) ≡ true
or_right true b e = refl
or_right false b e = e

mutual
  begun : (t : Tree) (bits : List Bool) → begins t bits ≡ true → (p : List Bool) × IsIn p (patterns t) × Agree p bits
  begun leaf [] e = (true ∷ [], inl refl, tt)
  begun leaf (b ∷ bits) e = (true ∷ [], inl refl, (sym e, tt))
  begun (all ts) bits e = all_begun ts bits e
  begun (any ts) bits e = one_begun ts bits e

  all_begun : (ts : Trees) (bits : List Bool) → all_begin ts bits ≡ true → (p : List Bool) × IsIn p (all_patterns ts) × Agree p bits
  all_begun none bits e = ([], inl refl, tt)
  all_begun (tree_and t ts) bits e =
      let a = begun t bits (and_left (begins t bits) (all_begin ts (drop (leaf_count t) bits)) e) in
      let b = all_begun ts (drop (leaf_count t) bits) (and_right (begins t bits) (all_begin ts (drop (leaf_count t) bits)) e) in (
        a.0 ++ b.0,
        in_flat (λ p. map (λ q. p ++ q) (all_patterns ts)) (a.0 ++ b.0) a.0 (patterns t) a.1 (in_mapped (λ q. a.0 ++ q) b.0 (all_patterns ts) b.1),
        agree_joined a.0 b.0 bits a.2 (subst (λ n. Agree b.0 (drop n bits)) (sym (length-pattern t a.0 a.1)) b.2),
      )

  one_begun : (ts : Trees) (bits : List Bool) → one_begins ts bits ≡ true → (p : List Bool) × IsIn p (any_patterns ts) × Agree p bits
  one_begun none bits e = absurd (false≢true e)
  one_begun (tree_and t ts) bits e =
      elim (or_cases (begins t bits && none_chosen (leaf_counts ts) (drop (leaf_count t) bits)) (none_chosen (leaf_count t) bits && one_begins ts (drop (leaf_count t) bits)) e) [
        | inl x ↦
            let a = begun t bits (and_left (begins t bits) (none_chosen (leaf_counts ts) (drop (leaf_count t) bits)) x) in
            let r = agree_none (leaf_counts ts) (drop (leaf_count t) bits) (and_right (begins t bits) (none_chosen (leaf_counts ts) (drop (leaf_count t) bits)) x) in (
              a.0 ++ replicate (leaf_counts ts) false,
              in_left (a.0 ++ replicate (leaf_counts ts) false) (map (λ p. p ++ replicate (leaf_counts ts) false) (patterns t)) (map (λ p. replicate (leaf_count t) false ++ p) (any_patterns ts)) (in_mapped (λ p. p ++ replicate (leaf_counts ts) false) a.0 (patterns t) a.1),
              agree_joined a.0 (replicate (leaf_counts ts) false) bits a.2 (subst (λ n. Agree (replicate (leaf_counts ts) false) (drop n bits)) (sym (length-pattern t a.0 a.1)) r),
            )
        | inr x ↦
            let b = one_begun ts (drop (leaf_count t) bits) (and_right (none_chosen (leaf_count t) bits) (one_begins ts (drop (leaf_count t) bits)) x) in (
              replicate (leaf_count t) false ++ b.0,
              in_right (replicate (leaf_count t) false ++ b.0) (map (λ p. p ++ replicate (leaf_counts ts) false) (patterns t)) (map (λ p. replicate (leaf_count t) false ++ p) (any_patterns ts)) (in_mapped (λ p. replicate (leaf_count t) false ++ p) b.0 (any_patterns ts) b.1),
              agree_joined (replicate (leaf_count t) false) b.0 bits (agree_none (leaf_count t) bits (and_left (none_chosen (leaf_count t) bits) (one_begins ts (drop (leaf_count t) bits)) x)) (subst (λ n. Agree b.0 (drop n bits)) (sym (length-replicate (leaf_count t) false)) b.2),
            )
      ]

mutual
  begins_with : (t : Tree) (p bits : List Bool) → IsIn p (patterns t) → Agree p bits → begins t bits ≡ true
  begins_with leaf p [] i a = refl
  begins_with leaf p (b ∷ bits) (inl e) a = let h = subst (λ q. Agree q (b ∷ bits)) e a in sym h.0
  begins_with leaf p (b ∷ bits) (inr i) a = absurd i
  begins_with (all ts) p bits i a = all_begin_with ts p bits i a
  begins_with (any ts) p bits i a = one_begins_with ts p bits i a

  all_begin_with : (ts : Trees) (p bits : List Bool) → IsIn p (all_patterns ts) → Agree p bits → all_begin ts bits ≡ true
  all_begin_with none p bits i a = refl
  all_begin_with (tree_and t ts) p bits i a =
      let h = in-flat_map (λ x. map (λ y. x ++ y) (all_patterns ts)) p (patterns t) i in
      let k = in-map (λ y. h.0 ++ y) p (all_patterns ts) h.2 in
      let g = subst (λ q. Agree q bits) k.2 a in
      and_both (begins t bits) (all_begin ts (drop (leaf_count t) bits))
      (begins_with t h.0 bits h.1 (agree_left h.0 k.0 bits g))
      (all_begin_with ts k.0 (drop (leaf_count t) bits) k.1 (subst (λ n. Agree k.0 (drop n bits)) (length-pattern t h.0 h.1) (agree_right h.0 k.0 bits g)))

  one_begins_with : (ts : Trees) (p bits : List Bool) → IsIn p (any_patterns ts) → Agree p bits → one_begins ts bits ≡ true
  one_begins_with none p bits i a = absurd i
  one_begins_with (tree_and t ts) p bits i a =
      elim (in-append p (map (λ x. x ++ replicate (leaf_counts ts) false) (patterns t)) (map (λ x. replicate (leaf_count t) false ++ x) (any_patterns ts)) i) [
        | inl j ↦
            let k = in-map (λ x. x ++ replicate (leaf_counts ts) false) p (patterns t) j in
            let g = subst (λ q. Agree q bits) k.2 a in
            or_left (begins t bits && none_chosen (leaf_counts ts) (drop (leaf_count t) bits)) (none_chosen (leaf_count t) bits && one_begins ts (drop (leaf_count t) bits))
            (and_both (begins t bits) (none_chosen (leaf_counts ts) (drop (leaf_count t) bits))
            (begins_with t k.0 bits k.1 (agree_left k.0 (replicate (leaf_counts ts) false) bits g))
            (none_agrees (leaf_counts ts) (drop (leaf_count t) bits) (subst (λ n. Agree (replicate (leaf_counts ts) false) (drop n bits)) (length-pattern t k.0 k.1) (agree_right k.0 (replicate (leaf_counts ts) false) bits g))))
        | inr j ↦
            let k = in-map (λ x. replicate (leaf_count t) false ++ x) p (any_patterns ts) j in
            let g = subst (λ q. Agree q bits) k.2 a in
            or_right (begins t bits && none_chosen (leaf_counts ts) (drop (leaf_count t) bits)) (none_chosen (leaf_count t) bits && one_begins ts (drop (leaf_count t) bits))
            (and_both (none_chosen (leaf_count t) bits) (one_begins ts (drop (leaf_count t) bits))
            (none_agrees (leaf_count t) bits (agree_left (replicate (leaf_count t) false) k.0 bits g))
            (one_begins_with ts k.0 (drop (leaf_count t) bits) k.1 (subst (λ n. Agree k.0 (drop n bits)) (length-replicate (leaf_count t) false) (agree_right (replicate (leaf_count t) false) k.0 bits g))))
      ]

-- ---- a pattern that goes on from the bits

goes_on_from : (p bits : List Bool) → Agree p bits → length bits ≤ length p → p ≡ bits ++ drop (length bits) p
goes_on_from p [] a l = refl
goes_on_from [] (b ∷ bits) a l = absurd (omega arith)
goes_on_from (x ∷ p) (b ∷ bits) a l = ap (λ y. y ∷ p) a.0 ∙ ap (λ q. b ∷ q) (goes_on_from p bits a.1 (omega arith))

agree_front : (bits rest : List Bool) → Agree (bits ++ rest) bits
agree_front [] rest = agree_nil rest
agree_front (b ∷ bits) rest = (refl, agree_front bits rest)

nothing_left : (n : ℕ) (bits : List Bool) → (length (drop n bits) == 0) ≡ true → length bits ≤ n
nothing_left zero bits e = grind (arith, nat_tests)
nothing_left (suc n) [] e = omega arith
nothing_left (suc n) (b ∷ bits) e = let h = nothing_left n bits e in omega arith

pub leaves_nothing : (n : ℕ) (bits : List Bool) → length bits ≤ n → (length (drop n bits) == 0) ≡ true
leaves_nothing zero bits l = grind (arith, nat_tests)
leaves_nothing (suc n) [] l = refl
leaves_nothing (suc n) (b ∷ bits) l = leaves_nothing n bits (omega arith)

pub begins_decides : (ns : List Node) (bits : List Bool) → Decides (begins_at ns bits) (BeginsPattern (tree_of ns) bits)
begins_decides ns bits = (
  λ e.
      let h = begun (tree_of ns) bits (and_left (begins (tree_of ns) bits) (length (drop (leaf_count (tree_of ns)) bits) == 0) e) in
      let l = nothing_left (leaf_count (tree_of ns)) bits (and_right (begins (tree_of ns) bits) (length (drop (leaf_count (tree_of ns)) bits) == 0) e) in
      let whole = length-pattern (tree_of ns) h.0 h.1 in
      (drop (length bits) h.0, subst (Contains (patterns (tree_of ns))) (goes_on_from h.0 bits h.2 (omega (arith, whole, l))) (contains_from_in (patterns (tree_of ns)) h.0 h.1)),
  λ b.
      let i = in_from_contains (patterns (tree_of ns)) (bits ++ b.0) b.1 in
      let whole = length-pattern (tree_of ns) (bits ++ b.0) i in
      let parts = length-append bits b.0 in
      and_both (begins (tree_of ns) bits) (length (drop (leaf_count (tree_of ns)) bits) == 0) (begins_with (tree_of ns) (bits ++ b.0) bits i (agree_front bits b.0)) (leaves_nothing (leaf_count (tree_of ns)) bits (omega (arith, whole, parts))),
)

-- bits that begin a pattern are no more than its leaves
pub begun_few : (ns : List Node) (bits : List Bool) → BeginsPattern (tree_of ns) bits → length bits ≤ leaf_count (tree_of ns)
begun_few ns bits b = nothing_left (leaf_count (tree_of ns)) bits (and_right (begins (tree_of ns) bits) (length (drop (leaf_count (tree_of ns)) bits) == 0) ((begins_decides ns bits).1 b))

-- ---- bits of trees beside one another

pub drop-nil : (n : ℕ) → drop {A = Bool} n [] ≡ []
drop-nil zero = refl
drop-nil (suc n) = refl

pub drop-add : (m n : ℕ) (bits : List Bool) → drop (m + n) bits ≡ drop n (drop m bits)
drop-add zero n bits = ap (λ k. drop k bits) (zero-add n)
drop-add (suc m) n [] = drop-nil (suc m + n) ∙ sym (drop-nil n)
drop-add (suc m) n (b ∷ bits) = let e : suc m + n ≡ suc (m + n) = omega arith in ap (λ k. drop k (b ∷ bits)) e ∙ drop-add m n bits

pub none_chosen-add : (m n : ℕ) (bits : List Bool) → none_chosen (m + n) bits ≡ (none_chosen m bits && none_chosen n (drop m bits))
none_chosen-add m n bits = ap (list_all not) (take-add m n bits) ∙ list_all-append not (take m bits) (take n (drop m bits))
