-- The least of the starts that are known, row by row.
use Rattle.std.proofs.Common.{◌≡◌, ℕ, true, false, List, [], ◌∷◌, ◌++◌, Option, Some, None, ◌⊎◌, inl, inr, refl, sym, ap, ◌∙◌, subst}
use Rattle.std.specs.Prelude.{Contains}
use Rattle.std.specs.declared.cmp.Ordering.{Ordering}
use Rattle.std.specs.declared.cmp.Ordering.TheVariants.{Less, Equal, Greater}
use Rattle.std.specs.Ordering.{nat_cmp, is_lt, ordering_then, ordering_reverse}
use Rattle.std.specs.Cmp.Lexicographic.{slice_cmp}
use Rattle.std.proofs.lemmas.Bool.{false≢true}
use Rattle.desk_base.specs.declared.search.results.Position.{Position}
use Rattle.desk_base.specs.search.Order.{pick_cmp, position_cmp}
use Rattle.desk_base.specs.search.OrderLaws.{position_total}
use Rattle.desk_pruned.specs.declared.roots.Next.TheVariants.{At}
use Rattle.desk_pruned.specs.declared.roots.Root.{Root}
use Rattle.desk_pruned.specs.declared.roots.First.{First}
use Rattle.desk_pruned.specs.Starts.{root_at, IsLeastRoot}
use Rattle.desk_pruned.proofs.cutting.Picks.{pick_equal, nat_equal}
use Rattle.desk_pruned.proofs.rooted.RowLists.{contains-push, contains_left, contains_last}

-- ---- positions that are equal or in order

abbrev pub NotBefore : Position → Position → Type 0
NotBefore a p = (p ≡ a) ⊎ (position_cmp a p ≡ Less)

pub not_before_trans : (a b p : Position) → NotBefore a b → NotBefore b p → NotBefore a p
not_before_trans a b p (inl e) h = subst (λ q. NotBefore q p) e h
not_before_trans a b p (inr l) (inl e) = inr (subst (λ q. position_cmp a q ≡ Less) (sym e) l)
not_before_trans a b p (inr l) (inr m) = inr (position_total.trans a b p l m)

root_equal : (s u : ℕ) (x y : Option ℕ) → position_cmp (root_at s x) (root_at u y) ≡ Equal → root_at s x ≡ root_at u y
root_equal s u x y h =
    let a = both_equal (nat_cmp s u) (slice_cmp pick_cmp (x ∷ []) (y ∷ [])) h in
    let b = both_equal (pick_cmp x y) Equal a.1 in
    ap (λ v. root_at v x) (nat_equal s u a.0) ∙ ap (root_at u) (pick_equal x y b.0)
  where
    both_equal : (r t : Ordering) → ordering_then r t ≡ Equal → (r ≡ Equal) × (t ≡ Equal)
    both_equal Less t e = cc
    both_equal Equal t e = (refl, e)
    both_equal Greater t e = cc

root_either : (s u : ℕ) (x y : Option ℕ) → is_lt (position_cmp (root_at s x) (root_at u y)) ≡ false → NotBefore (root_at u y) (root_at s x)
root_either s u x y h = by (position_cmp (root_at s x) (root_at u y)) refl h
  where
    by : (r : Ordering) → position_cmp (root_at s x) (root_at u y) ≡ r → is_lt r ≡ false → NotBefore (root_at u y) (root_at s x)
    by Less e k = cc
    by Equal e k = inl (root_equal s u x y e)
    by Greater e k = inr (position_total.antisymm (root_at u y) (root_at s x) ∙ ap ordering_reverse e)

-- ---- the least so far

less_is : (o : Ordering) → is_lt o ≡ true → o ≡ Less
less_is Less e = refl
less_is Equal e = absurd (false≢true e)
less_is Greater e = absurd (false≢true e)

module _ (roots : List Root) (r : Root) where
  -- the row has no start
  pub least_kept : (o : Option First) → ((u : ℕ) → r.next ≡ At u → ⊥) → IsLeastRoot roots o → IsLeastRoot (roots ++ r ∷ []) o
  least_kept None none h = λ q u c e. elim (contains-push roots r q c) [ inl d ↦ h q u d e | inr f ↦ none u (subst (λ (q : Root). q.next ≡ At u) f e) ]
  least_kept (Some f) none h = (
    contains_left roots (r ∷ []) (record { pick = f.pick; next = At f.start }) h.0,
    λ q u c e. elim (contains-push roots r q c) [ inl d ↦ h.1 q u d e | inr g ↦ absurd (none u (subst (λ (q : Root). q.next ≡ At u) g e)) ],
  )

  module _ (n : ℕ) (here : r.next ≡ At n) where
    its_row : Contains (roots ++ r ∷ []) (record { pick = r.pick; next = At n })
    its_row = subst (Contains (roots ++ r ∷ [])) (ap (λ m. record { pick = r.pick; next = m }) here) (contains_last roots r)

    same : (q : Root) (u : ℕ) → q ≡ r → q.next ≡ At u → root_at u q.pick ≡ root_at n r.pick
    same q u g e = let z : At u ≡ At n = sym e ∙ ap (λ (q : Root). q.next) g ∙ here in let v : u ≡ n = cc in ap (λ v. root_at v q.pick) v ∙ ap (λ (q : Root). root_at n q.pick) g

    pub least_first : IsLeastRoot roots None → IsLeastRoot (roots ++ r ∷ []) (Some (record { start = n; pick = r.pick }))
    least_first h = (its_row, λ q u c e. elim (contains-push roots r q c) [ inl d ↦ absurd (h q u d e) | inr g ↦ inl (same q u g e) ])

    pub least_stays : (f : First) → is_lt (position_cmp (root_at f.start f.pick) (root_at n r.pick)) ≡ true → IsLeastRoot roots (Some f) → IsLeastRoot (roots ++ r ∷ []) (Some f)
    least_stays f l h = (
      contains_left roots (r ∷ []) (record { pick = f.pick; next = At f.start }) h.0,
      λ q u c e.
          elim (contains-push roots r q c) [ inl d ↦ h.1 q u d e | inr g ↦ inr (subst (λ p. position_cmp (root_at f.start f.pick) p ≡ Less) (sym (same q u g e)) (less_is (position_cmp (root_at f.start f.pick) (root_at n r.pick)) l)) ],
    )

    pub least_new : (f : First) → is_lt (position_cmp (root_at f.start f.pick) (root_at n r.pick)) ≡ false → IsLeastRoot roots (Some f) → IsLeastRoot (roots ++ r ∷ []) (Some (record { start = n; pick = r.pick }))
    least_new f l h = (
      its_row,
      λ q u c e.
          elim (contains-push roots r q c) [
            | inl d ↦ not_before_trans (root_at n r.pick) (root_at f.start f.pick) (root_at u q.pick) (root_either f.start n f.pick r.pick l) (h.1 q u d e)
            | inr g ↦ inl (same q u g e)
          ],
    )
