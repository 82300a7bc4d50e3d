-- What is known of the next starts: what an answer tells, the first of them, and what stays known.
use Rattle.std.proofs.Common.{◌≡◌, ℕ, ◌+◌, ◌<◌, ◌≤◌, Bool, true, false, cond, nat_le, List, [], ◌∷◌, map, length, Option, Some, None, inl, inr, refl, sym, ap, ◌∙◌, subst, arith}
use Rattle.std.specs.Prelude.{Contains}
use Rattle.std.proofs.lemmas.Bool.Decides.{nat_tests}
use Rattle.std.specs.declared.cmp.Ordering.TheVariants.{Less, Equal}
use Rattle.std.specs.Ordering.{is_eq, is_lt}
use Rattle.std.proofs.lemmas.Bool.{false≢true}
use Rattle.desk_base.specs.declared.search.results.Position.{Position}
use Rattle.desk_base.specs.search.Order.{pick_cmp, position_cmp}
use Rattle.desk_base.specs.search.Positions.{position_at}
use Rattle.desk_base.proofs.lists.Members.{IsIn, in-map, contains_from_in, in_from_contains}
use Rattle.desk_base.proofs.searched.Due.{le_cases}
use Rattle.desk_pruned.specs.declared.roots.Next.{Next}
use Rattle.desk_pruned.specs.declared.roots.Next.TheVariants.{Unasked, At, Never}
use Rattle.desk_pruned.specs.declared.roots.Root.{Root}
use Rattle.desk_pruned.specs.declared.roots.First.{First}
use Rattle.desk_pruned.specs.Ways.{Ways, IsSound, IsLiveAt, IsFirstStart, Comes}
use Rattle.desk_pruned.specs.Cuts.{PastPicks, IsPast, Cut, past, IsBeyond, IsNextLive, IsCutBefore, cut_at}
use Rattle.desk_pruned.specs.Costs.{comes}
use Rattle.desk_pruned.specs.Starts.{root_at, IsNextStart, IsKnown, AreRoots, IsLeastRoot, IsFirstRoot, is_unasked, unasked_root, is_same, forgotten, is_passed, left, low}
use Rattle.desk_pruned.proofs.cutting.Picks.{pick_same, then_splits, less_splits, less_by_start, less_by_picks, past_less_own, less_here, beyond_up}
use Rattle.desk_pruned.proofs.cutting.NextPicks.{Comes_is}
use Rattle.desk_pruned.proofs.cutting.Cuts.{child_is_beyond}
use Rattle.desk_pruned.proofs.rooted.LeastRoots.{NotBefore, not_before_trans}
use Rattle.desk_pruned.proofs.rooted.RowLists.{picks_kept, forgotten_pick, left_pick}

-- ---- starts beyond a cut of the first leaf

-- what is beyond it does not start before it
pub beyond_from : (s : ℕ) (tried : Option (Option ℕ)) (p : Position) → IsBeyond (cut_at s [] tried) p → s ≤ p.start
beyond_from s None p h = elim (less_splits (position_at s []) p h) [ inl l ↦ omega arith | inr e ↦ omega (arith, e.0) ]
beyond_from s (Some x) p (inl l) = omega arith
beyond_from s (Some x) p (inr e) = omega (arith, e.0)

beyond_later : (s : ℕ) (tried : Option (Option ℕ)) (p : Position) → s < p.start → IsBeyond (cut_at s [] tried) p
beyond_later s None p l = less_by_start (position_at s []) p l
beyond_later s (Some x) p l = inl l

low_up : (s : ℕ) (tried : Option (Option ℕ)) (y : Option ℕ) (u : ℕ) → low s tried y ≤ u → IsBeyond (cut_at s [] tried) (root_at u y)
low_up s tried y u h = by (comes tried y) refl h
  where
    by : (b : Bool) → comes tried y ≡ b → cond b s (s + 1) ≤ u → IsBeyond (cut_at s [] tried) (root_at u y)
    by true e h = elim (le_cases s u h) [ inl l ↦ beyond_later s tried (root_at u y) l | inr f ↦ subst (λ v. IsBeyond (cut_at s [] tried) (root_at v y)) f (child_is_beyond s [] tried y (Comes_is tried y e)) ]
    by false e h = beyond_later s tried (root_at u y) (omega arith)

low_down : (s : ℕ) (tried : Option (Option ℕ)) (y : Option ℕ) (u : ℕ) → IsBeyond (cut_at s [] tried) (root_at u y) → low s tried y ≤ u
low_down s None y u h = beyond_from s None (root_at u y) h
low_down s (Some x) y u (inl l) = upto (comes (Some x) y) l
  where
    upto : (b : Bool) → s < u → cond b s (s + 1) ≤ u
    upto true l = omega arith
    upto false l = omega arith
low_down s (Some x) y u (inr (e, inl l)) = subst (λ b. cond b s (s + 1) ≤ u) (sym (ap is_lt l)) (omega (arith, e))
low_down s (Some x) y u (inr (e, inr k)) = absurd k.1

root_beyond : (s : ℕ) (tried : Option (Option ℕ)) (u : ℕ) (y : Option ℕ) (rest : List (Option ℕ)) → IsBeyond (cut_at s [] tried) (position_at u (y ∷ rest)) → IsBeyond (cut_at s [] tried) (root_at u y)
root_beyond s None u y rest h =
    elim (less_splits (position_at s []) (position_at u (y ∷ rest)) h) [
      | inl l ↦ less_by_start (position_at s []) (root_at u y) l
      | inr e ↦ less_by_picks (position_at s []) (root_at u y) e.0 refl
    ]
root_beyond s (Some x) u y rest (inl l) = inl l
root_beyond s (Some x) u y rest (inr (e, inl l)) = inr (e, inl l)
root_beyond s (Some x) u y rest (inr (e, inr k)) = absurd k.1

-- no pick comes after the one that is left out
pub past_start : (s : ℕ) (p : Position) → IsBeyond (cut_at s [] (Some None)) p → s < p.start
past_start s p (inl l) = l
past_start s p (inr h) = absurd (by p.picks h.1)
  where
    by : (q : List (Option ℕ)) → PastPicks (None ∷ []) q → ⊥
    by [] h = h
    by (y ∷ q) (inl l) = last y l
      where
        last : (y : Option ℕ) → pick_cmp None y ≡ Less → ⊥
        last None l = cc
        last (Some b) l = cc
    by (y ∷ q) (inr k) = k.1

past_is_less : (a p : Position) → IsPast a p → position_cmp a p ≡ Less
past_is_less a p (inl l) = less_by_start a p l
past_is_less a p (inr h) = less_by_picks a p h.0 (past_less_own a.picks p.picks h.1)

root_past : (t v : ℕ) (x y : Option ℕ) → position_cmp (root_at t x) (root_at v y) ≡ Less → IsPast (root_at t x) (root_at v y)
root_past t v x y h =
    elim (less_splits (root_at t x) (root_at v y) h) [
      | inl l ↦ inl l
      | inr e ↦ elim (then_splits (pick_cmp x y) Equal e.1) [ inl l ↦ inr (e.0, inl l) | inr z ↦ let k = z.1 in cc ]
    ]

module _ (w : Ways) where
  -- ---- what an answer tells

  module _ (s : ℕ) (tried : Option (Option ℕ)) (x : Option ℕ) where
    pub told : (o : Option ℕ) → IsFirstStart w x (low s tried x) o → IsNextStart w (cut_at s [] tried) x o
    told None h = λ u b l. h u (low_down s tried x u b) l
    told (Some t) h = (low_up s tried x t h.0, h.1, λ u b l. h.2 u (low_down s tried x u b) l)

    -- a pick that is still to come and has its next start elsewhere is not live here
    pub not_here : (n : Next) → IsKnown w (cut_at s [] tried) x n → is_unasked n ≡ false → Comes tried x → (n ≡ At s → ⊥) → IsLiveAt w s (x ∷ []) → ⊥
    not_here Unasked h e c other live = false≢true (sym e)
    not_here Never h e c other live = h s (child_is_beyond s [] tried x c) live
    not_here (At t) h e c other live =
        let up = h.2 s (child_is_beyond s [] tried x c) live in
        let down = beyond_from s tried (root_at t x) h.0 in
        let same : t ≡ s = omega (arith, up, down) in
        other (ap At same)

  -- ---- the first root of all

  module _ (sound : IsSound w) (s : ℕ) (tried : Option (Option ℕ)) (roots : List Root) (rows : AreRoots w (cut_at s [] tried) roots) (asked : (r : Root) → Contains roots r → is_unasked r.next ≡ false) where
    -- the row of the first pick of a live position beyond the cut
    row_of : (u : ℕ) (y : Option ℕ) (rest : List (Option ℕ)) → IsLiveAt w u (y ∷ rest) → IsBeyond (cut_at s [] tried) (position_at u (y ∷ rest))
        → (r : Root) × Contains roots r × (v : ℕ) × (r.next ≡ At v) × NotBefore (root_at v r.pick) (position_at u (y ∷ rest))
    row_of u y rest live beyond =
        let c = contains_from_in roots row.0 row.1 in
        let f = found row.0.next refl (asked row.0 c) (subst (λ z. IsKnown w (cut_at s [] tried) z row.0.next) (sym row.2) (rows.known row.0 c)) in (row.0, c, f.0, f.1, f.2)
      where
        root_live : IsLiveAt w u (y ∷ [])
        root_live = sound.begun u (y ∷ []) rest (omega arith) live

        row : (r : Root) × IsIn r roots × (y ≡ r.pick)
        row = in-map (λ (r : Root). r.pick) y roots (subst (IsIn y) (sym rows.picks) (in_from_contains (w.choices 0) y (sound.offered u [] y root_live)))

        here : (l : List (Option ℕ)) → NotBefore (root_at u y) (position_at u (y ∷ l))
        here [] = inl refl
        here (z ∷ l) = inr (less_by_picks (root_at u y) (position_at u (y ∷ z ∷ l)) refl (less_here (y ∷ []) z l))

        from : (v : ℕ) → v ≤ u → NotBefore (root_at v y) (position_at u (y ∷ rest))
        from v h = elim (le_cases v u h) [ inl l ↦ inr (less_by_start (root_at v y) (position_at u (y ∷ rest)) l) | inr e ↦ subst (λ n. NotBefore (root_at n y) (position_at u (y ∷ rest))) (sym e) (here rest) ]

        found : (n : Next) → row.0.next ≡ n → is_unasked row.0.next ≡ false → IsKnown w (cut_at s [] tried) y row.0.next → (v : ℕ) × (row.0.next ≡ At v) × NotBefore (root_at v row.0.pick) (position_at u (y ∷ rest))
        found Unasked e a h = absurd (false≢true (sym (subst (λ n. is_unasked n ≡ false) e a)))
        found Never e a h = absurd (subst (IsKnown w (cut_at s [] tried) y) e h u (root_beyond s tried u y rest beyond) root_live)
        found (At v) e a h = (v, e, subst (λ z. NotBefore (root_at v z) (position_at u (y ∷ rest))) row.2 (from v ((subst (IsKnown w (cut_at s [] tried) y) e h).2 u (root_beyond s tried u y rest beyond) root_live)))

    pub first_of_all : (o : Option First) → IsLeastRoot roots o → IsFirstRoot w (cut_at s [] tried) o
    first_of_all None none = λ p live beyond. by p.start p.picks (sound.some p live) live beyond
      where
        by : (u : ℕ) (q : List (Option ℕ)) → 1 ≤ length q → IsLiveAt w u q → IsBeyond (cut_at s [] tried) (position_at u q) → ⊥
        by u [] some live beyond = absurd (omega arith)
        by u (y ∷ rest) some live beyond = let r = row_of u y rest live beyond in none r.0 r.2 r.1 r.3
    first_of_all (Some f) least = (its_row.1, its_row.0, λ p live beyond. by p.start p.picks (sound.some p live) live beyond)
      where
        its_row : IsNextStart w (cut_at s [] tried) f.pick (Some f.start)
        its_row = rows.known (record { pick = f.pick; next = At f.start }) least.0

        by : (u : ℕ) (q : List (Option ℕ)) → 1 ≤ length q → IsLiveAt w u q → IsBeyond (cut_at s [] tried) (position_at u q) → NotBefore (root_at f.start f.pick) (position_at u q)
        by u [] some live beyond = absurd (omega arith)
        by u (y ∷ rest) some live beyond = let r = row_of u y rest live beyond in not_before_trans (root_at f.start f.pick) (root_at r.2 r.0.pick) (position_at u (y ∷ rest)) (least.1 r.0 r.2 r.1 r.3) r.4

  -- ---- what stays known

  module _ (k : Cut) (roots : List Root) (rows : AreRoots w k roots) where
    -- past the first root, where its own start is forgotten
    pub roots_past : (t : ℕ) (x : Option ℕ) → IsNextLive w k (root_at t x) → AreRoots w (past (root_at t x)) (map (forgotten x) roots)
    roots_past t x first = record {
      picks = picks_kept (forgotten x) (forgotten_pick x) roots ∙ rows.picks;
      known = λ q c.
          let m = in-map (forgotten x) q roots (in_from_contains (map (forgotten x) roots) q c) in
          subst (λ (r : Root). IsKnown w (past (root_at t x)) r.pick r.next) (sym m.2) (row m.0 (contains_from_in roots m.0 m.1) (is_same m.0.pick x) refl);
    }
      where
        still : (u : ℕ) (y : Option ℕ) → IsPast (root_at t x) (root_at u y) → IsBeyond k (root_at u y)
        still u y h = beyond_up k (root_at t x) (root_at u y) first.1 (past_is_less (root_at t x) (root_at u y) h)

        is_other : (y : Option ℕ) (v : ℕ) → is_same y x ≡ false → root_at v y ≡ root_at t x → ⊥
        is_other y v other e = let z : y ≡ x = first_pick (ap (λ (p : Position). p.picks) e) in false≢true (sym other ∙ ap is_eq (subst (λ x. pick_cmp y x ≡ Equal) z (pick_same y)))
          where
            first_pick : y ∷ [] ≡ x ∷ [] → y ≡ x
            first_pick e = cc

        known : (y : Option ℕ) (n : Next) → is_same y x ≡ false → IsKnown w k y n → IsKnown w (past (root_at t x)) y n
        known y Unasked other h = tt
        known y Never other h = λ u b l. h u (still u y b) l
        known y (At v) other h = (elim (first.2 (root_at v y) h.1 h.0) [ inl z ↦ absurd (is_other y v other z) | inr l ↦ root_past t v x y l ], h.1, λ u b l. h.2 u (still u y b) l)

        row : (r : Root) → Contains roots r → (b : Bool) → is_same r.pick x ≡ b → (let q = cond b (unasked_root r.pick) r in IsKnown w (past (root_at t x)) q.pick q.next)
        row r c true e = tt
        row r c false e = known r.pick r.next e (rows.known r c)

    -- after a start, where the starts up to it are forgotten
    pub roots_later : (s : ℕ) → IsCutBefore w k s → AreRoots w (cut_at s [] (Some None)) (map (left s) roots)
    roots_later s before = record {
      picks = picks_kept (left s) (left_pick s) roots ∙ rows.picks;
      known = λ q c.
          let m = in-map (left s) q roots (in_from_contains (map (left s) roots) q c) in
          subst (λ (r : Root). IsKnown w (cut_at s [] (Some None)) r.pick r.next) (sym m.2) (row m.0 (contains_from_in roots m.0 m.1) (is_passed m.0.next s) refl);
    }
      where
        not_passed : (t s : ℕ) → nat_le t s ≡ false → s < t
        not_passed t s h = grind (arith, nat_tests)

        known : (y : Option ℕ) (n : Next) → is_passed n s ≡ false → IsKnown w k y n → IsKnown w (cut_at s [] (Some None)) y n
        known y Unasked e h = tt
        known y Never e h = λ u b l. h u (before (root_at u y) l (past_start s (root_at u y) b)) l
        known y (At t) e h = (inl (not_passed t s e), h.1, λ u b l. h.2 u (before (root_at u y) l (past_start s (root_at u y) b)) l)

        row : (r : Root) → Contains roots r → (b : Bool) → is_passed r.next s ≡ b → (let q = cond b (unasked_root r.pick) r in IsKnown w (cut_at s [] (Some None)) q.pick q.next)
        row r c true e = tt
        row r c false e = known r.pick r.next e (rows.known r c)
