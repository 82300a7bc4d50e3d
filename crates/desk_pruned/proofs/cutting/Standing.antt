-- Where a search begins, and how it goes from one position to the next.
use Rattle.std.proofs.Common.{◌≡◌, ℕ, ◌+◌, ◌-◌, ◌<◌, ◌≤◌, Bool, true, false, ◌||◌, List, [], ◌∷◌, ◌++◌, length, take, drop, get_or, Option, Some, None, inl, inr, refl, sym, ap, ◌∙◌, subst, arith, append_assoc}
use Rattle.std.specs.Prelude.{Contains}
use Rattle.std.specs.List.{list_any}
use Rattle.std.specs.Ordering.{is_eq}
use Rattle.std.proofs.lemmas.Bool.{false≢true}
use Rattle.std.proofs.lemmas.List.{take_all, length-drop}
use Rattle.std.specs.declared.cmp.Ordering.TheVariants.{Less}
use Rattle.desk_base.specs.search.Order.{position_cmp}
use Rattle.desk_base.specs.search.Positions.{position_at}
use Rattle.desk_base.proofs.searched.Due.{le_cases}
use Rattle.desk_base.proofs.lists.Members.{IsIn, contains_from_in, in_from_contains}
use Rattle.desk_pruned.specs.declared.roots.Root.{Root}
use Rattle.desk_pruned.specs.Ways.{Ways, IsSound, IsLiveAt}
use Rattle.desk_pruned.specs.Cuts.{Cut, everything, after, past, cut_at, IsNextLive, LeaveTheSame}
use Rattle.desk_pruned.specs.Starts.{root_at, AreRoots, is_same}
use Rattle.desk_pruned.specs.Trails.{root_cut, IsClimbed, HasGone, Reaches}
use Rattle.desk_pruned.proofs.cutting.Picks.{pick_same, less_by_start, less_by_picks}
use Rattle.desk_pruned.proofs.cutting.Cuts.{next_through, last_through, dead_here}
use Rattle.desk_pruned.proofs.cutting.NextPicks.{split_here}
use Rattle.desk_pruned.proofs.rooted.RowLists.{same_is}

-- ---- what is offered

any_at : {A : Type 0} (p : A → Bool) (xs : List A) → list_any p xs ≡ true → (x : A) × IsIn x xs × (p x ≡ true)
any_at p [] e = absurd (false≢true e)
any_at {A} p (y ∷ ys) e = step (p y) refl e (any_at p ys)
  where
    step : (b : Bool) → p y ≡ b → (b || list_any p ys) ≡ true → (list_any p ys ≡ true → (x : A) × IsIn x ys × (p x ≡ true)) → (x : A) × IsIn x (y ∷ ys) × (p x ≡ true)
    step true k e h = (y, inl refl, k)
    step false k e h = let r = h e in (r.0, inr r.1, r.2)

any_from : {A : Type 0} (p : A → Bool) (xs : List A) (x : A) → IsIn x xs → p x ≡ true → list_any p xs ≡ true
any_from p [] x i e = absurd i
any_from {A} p (y ∷ ys) x i e = step (p y) refl i (λ j. any_from p ys x j e)
  where
    step : (b : Bool) → p y ≡ b → IsIn x (y ∷ ys) → (IsIn x ys → list_any p ys ≡ true) → (b || list_any p ys) ≡ true
    step true k j h = refl
    step false k (inl q) h = absurd (false≢true (sym k ∙ sym (ap p q) ∙ e))
    step false k (inr j) h = h j

pub offered_is : (xs : List (Option ℕ)) (x : Option ℕ) (b : Bool) → b ≡ list_any (λ y. is_same y x) xs → b ≡ true → Contains xs x
offered_is xs x b e h = let r = any_at (λ y. is_same y x) xs (sym e ∙ h) in subst (Contains xs) (same_is r.0 x r.2) (contains_from_in xs r.0 r.1)

pub not_offered : (xs : List (Option ℕ)) (x : Option ℕ) (b : Bool) → b ≡ list_any (λ y. is_same y x) xs → b ≡ false → Contains xs x → ⊥
not_offered xs x b e h c = false≢true (sym h ∙ e ∙ any_from (λ y. is_same y x) xs x (in_from_contains xs x c) (ap is_eq (pick_same x)))

pub first_split : (xs : List (Option ℕ)) (x : Option ℕ) → 1 ≤ length xs → x ≡ get_or xs 0 x → xs ≡ x ∷ drop 1 xs
first_split xs x h e = split_here xs 0 x (omega arith) e

pub whole_rest : (xs : List (Option ℕ)) → take (length xs - 1) (drop 1 xs) ≡ drop 1 xs
whole_rest xs = let e = length-drop 1 xs in take_all (length xs - 1) (drop 1 xs) (omega (arith, e))

module _ (w : Ways) (sound : IsSound w) where
  same_self : (k : Cut) → LeaveTheSame w k k
  same_self k p live = ((λ h. h), λ h. h)

  -- ---- the beginning

  pub reaches_part : (s : ℕ) (front rest now : List (Option ℕ)) (i : ℕ) (x : Option ℕ) → i < length rest → x ≡ get_or rest i x → now ≡ front ++ take i rest → (IsLiveAt w s (now ++ x ∷ []) → ⊥) → Reaches w s (front ++ rest) (Some x) now
  reaches_part s front rest now i x h e n dead =
      (drop (i + 1) rest, ap (λ l. front ++ l) (split_here rest i x h e) ∙ sym (append_assoc front (take i rest) (x ∷ drop (i + 1) rest)) ∙ ap (λ l. l ++ x ∷ drop (i + 1) rest) (sym n), dead)

  -- the first pick is not live
  pub same_before : (s t : ℕ) (picks : List (Option ℕ)) (x : Option ℕ) (now : List (Option ℕ)) → 1 ≤ length picks → x ≡ get_or picks 0 x → (IsLiveAt w s (x ∷ []) → ⊥) → t ≡ s → now ≡ [] → LeaveTheSame w (after (position_at s picks)) (cut_at t now (Some x))
  same_before s t picks x now h e dead f n =
      subst (λ l. LeaveTheSame w (after (position_at s picks)) (cut_at t l (Some x))) (sym n)
      (subst (λ u. LeaveTheSame w (after (position_at s picks)) (cut_at u [] (Some x))) (sym f)
      (subst (λ l. LeaveTheSame w (after (position_at s l)) (cut_at s [] (Some x))) (sym (first_split picks x h e)) (dead_here w sound s [] x (drop 1 picks) dead)))

  -- some picks are live
  reached : (s : ℕ) (whole now : List (Option ℕ)) (next : Option (Option ℕ)) → Reaches w s whole next now → LeaveTheSame w (after (position_at s whole)) (cut_at s now next)
  reached s whole now None h = subst (λ l. LeaveTheSame w (after (position_at s whole)) (after (position_at s l))) (sym h) (same_self (after (position_at s whole)))
  reached s whole now (Some y) h = subst (λ l. LeaveTheSame w (after (position_at s l)) (past (position_at s (now ++ y ∷ [])))) (sym h.1) (dead_here w sound s now y h.0 h.2)

  pub same_there : (s t : ℕ) (picks front rest now : List (Option ℕ)) (x : Option ℕ) (next : Option (Option ℕ)) → picks ≡ x ∷ rest → t ≡ s → front ≡ x ∷ [] → Reaches w t (front ++ rest) next now → LeaveTheSame w (after (position_at s picks)) (cut_at t now next)
  same_there s t picks front rest now x next e f g h =
      subst (λ u. LeaveTheSame w (after (position_at u picks)) (cut_at t now next)) f
      (subst (λ l. LeaveTheSame w (after (position_at t l)) (cut_at t now next)) (ap (λ l. l ++ rest) g ∙ sym e) (reached t (front ++ rest) now next h))

  -- no position is given: no live one starts before the earliest minute
  pub same_first : (s : ℕ) (q : List (Option ℕ)) → s ≡ w.earliest → q ≡ [] → LeaveTheSame w everything (cut_at s q None)
  same_first s q e f =
      subst (λ l. LeaveTheSame w everything (after (position_at s l))) (sym f)
      (subst (λ u. LeaveTheSame w everything (after (position_at u []))) (sym e) (λ p live. ((λ h. from p.start p.picks (sound.late p live) (sound.some p live)), λ h. tt)))
    where
      from : (t : ℕ) (l : List (Option ℕ)) → w.earliest ≤ t → 1 ≤ length l → position_cmp (position_at w.earliest []) (position_at t l) ≡ Less
      from t [] h some = absurd (omega arith)
      from t (y ∷ l) h some = elim (le_cases w.earliest t h) [ inl m ↦ less_by_start (position_at w.earliest []) (position_at t (y ∷ l)) m | inr f ↦ less_by_picks (position_at w.earliest []) (position_at t (y ∷ l)) f refl ]

  -- ---- on to the next

  pub gone_through : (j k : Cut) (found : Bool) (s : ℕ) (q : List (Option ℕ)) (roots : List Root) → LeaveTheSame w j k → HasGone w k found s q roots → HasGone w j found s q roots
  gone_through j k true s q roots same gone = (next_through w sound j k (position_at s q) same gone.0, gone.1)
  gone_through j k false s q roots same gone = (last_through w sound j k same gone.0, gone.1)

  pub gone_up : (s : ℕ) (q now : List (Option ℕ)) (tried : Option (Option ℕ)) (roots : List Root) → IsClimbed w s q tried true now → AreRoots w (root_cut s q tried) roots → HasGone w (cut_at s q tried) true s now roots
  gone_up s [] now tried roots up rows = absurd (no_picks now (sound.some (position_at s now) up.0.0) up.1)
    where
      no_picks : (l : List (Option ℕ)) → 1 ≤ length l → take 1 l ≡ [] → ⊥
      no_picks [] h e = omega arith
      no_picks (y ∷ l) h e = cc
  gone_up s (x ∷ q) now tried roots up rows = (up.0, by now up.1)
    where
      by : (l : List (Option ℕ)) → take 1 l ≡ x ∷ [] → AreRoots w (root_cut s l None) roots
      by [] e = cc
      by (y ∷ l) e = subst (λ l. AreRoots w (past (position_at s l)) roots) (sym e) rows

  pub gone_over : (s t : ℕ) (q now then : List (Option ℕ)) (tried : Option (Option ℕ)) (found : Bool) (roots : List Root) → IsClimbed w s q tried false now → HasGone w (root_cut s q tried) found t then roots → HasGone w (cut_at s q tried) found t then roots
  gone_over s t q now then tried found roots up gone = gone_through (cut_at s q tried) (root_cut s q tried) found t then roots up.0 gone

  -- stood on the first root
  pub gone_to : (k : Cut) (s t : ℕ) (q : List (Option ℕ)) (x : Option ℕ) (roots now : List Root) → IsNextLive w k (root_at t x) → AreRoots w (past (root_at t x)) roots → s ≡ t → q ≡ x ∷ [] → now ≡ roots → HasGone w k true s q now
  gone_to k s t q x roots now first rows e f g =
      subst (λ l. HasGone w k true s q l) (sym g) (subst (λ l. HasGone w k true s l roots) (sym f) (subst (λ u. HasGone w k true u (x ∷ []) roots) (sym e) (first, rows)))
