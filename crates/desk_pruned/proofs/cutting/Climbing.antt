-- Up from pick to pick, until one is followed by a live one.
use Rattle.std.proofs.Common.{◌≡◌, ℕ, suc, ◌+◌, ◌≤◌, true, false, List, [], ◌∷◌, ◌++◌, length, take, Option, Some, None, refl, sym, ap, subst, arith}
use Rattle.std.specs.Prelude.{MatchOption}
use Rattle.desk_base.specs.search.Positions.{position_at}
use Rattle.desk_pruned.specs.Ways.{Ways, IsSound, IsLiveAt, IsNextPick}
use Rattle.desk_pruned.specs.Cuts.{cut_at, past, LeaveTheSame}
use Rattle.desk_pruned.specs.Costs.{owed, beside_from, beside, left_at}
use Rattle.desk_pruned.specs.Trails.{IsOn, root_cut, IsClimbed}
use Rattle.desk_pruned.proofs.cutting.Cuts.{none_here, next_here, same_through, next_through}

-- what was left at the first picks is left at these
abbrev pub IsKept : Ways → ℕ → List (Option ℕ) → Option (Option ℕ) → List (Option ℕ) → Option (Option ℕ) → Type 0
IsKept w s first tried [] now = LeaveTheSame w (cut_at s first tried) (root_cut s first tried)
IsKept w s first tried (x ∷ xs) now = LeaveTheSame w (cut_at s first tried) (cut_at s (x ∷ xs) now) × (x ∷ [] ≡ take 1 first)

module _ (w : Ways) (s : ℕ) (first : List (Option ℕ)) (tried : Option (Option ℕ)) where
  pub kept_first : IsKept w s first tried first tried
  kept_first = by first
    where
      by : (q : List (Option ℕ)) → IsKept w s q tried q tried
      by [] = λ p live. ((λ h. h), λ h. h)
      by (x ∷ xs) = ((λ p live. ((λ h. h), λ h. h)), refl)

  one_cut : (x : Option ℕ) → LeaveTheSame w (cut_at s first tried) (past (position_at s (x ∷ []))) → x ∷ [] ≡ take 1 first → LeaveTheSame w (cut_at s first tried) (root_cut s first tried)
  one_cut x same e = by first e same
    where
      by : (q : List (Option ℕ)) → x ∷ [] ≡ take 1 q → LeaveTheSame w (cut_at s first tried) (past (position_at s (x ∷ []))) → LeaveTheSame w (cut_at s first tried) (root_cut s q tried)
      by [] e h = cc
      by (y ∷ ys) e h = subst (λ l. LeaveTheSame w (cut_at s first tried) (past (position_at s l))) e h

  pub kept_pop : IsSound w → (q rest : List (Option ℕ)) (x : Option ℕ) (now : Option (Option ℕ)) → q ≡ rest ++ x ∷ [] → IsNextPick w s q now None → IsKept w s first tried q now → IsKept w s first tried rest (Some x)
  kept_pop sound q [] x now e none kept =
      let k = subst (λ l. IsKept w s first tried l now) e kept in
      let n = subst (λ l. IsNextPick w s l now None) e none in
      one_cut x (same_through w sound (cut_at s first tried) (cut_at s (x ∷ []) now) (past (position_at s (x ∷ []))) k.0 (none_here w sound s (x ∷ []) now n)) k.1
  kept_pop sound q (y ∷ ys) x now e none kept =
      let k = subst (λ l. IsKept w s first tried l now) e kept in
      let n = subst (λ l. IsNextPick w s l now None) e none in
      (same_through w sound (cut_at s first tried) (cut_at s (y ∷ (ys ++ x ∷ [])) now) (past (position_at s (y ∷ (ys ++ x ∷ [])))) k.0 (none_here w sound s (y ∷ (ys ++ x ∷ [])) now n), k.1)

  pub climbed_to : IsSound w → (q : List (Option ℕ)) (y : Option ℕ) (now : Option (Option ℕ)) → 1 ≤ length q → IsNextPick w s q now (Some y) → IsKept w s first tried q now → IsClimbed w s first tried true (q ++ y ∷ [])
  climbed_to sound [] y now some next kept = absurd (omega arith)
  climbed_to sound (x ∷ xs) y now some next kept = (next_through w sound (cut_at s first tried) (cut_at s (x ∷ xs) now) (position_at s (x ∷ (xs ++ y ∷ []))) kept.0 (next_here w sound s (x ∷ xs) now y next), kept.1)

  pub climbed_out : (q : List (Option ℕ)) (now : Option (Option ℕ)) → q ≡ [] → IsKept w s first tried q now → IsClimbed w s first tried false q
  climbed_out [] now e kept = (kept, refl)
  climbed_out (x ∷ xs) now e kept = cc

pub on_pop : (w : Ways) (s : ℕ) → IsSound w → (q rest : List (Option ℕ)) (x : Option ℕ) → q ≡ rest ++ x ∷ [] → IsOn w s q → IsOn w s rest
on_pop w s sound q [] x e h = tt
on_pop w s sound q (y ∷ ys) x e h = sound.begun s (y ∷ ys) (x ∷ []) (omega arith) (subst (IsOn w s) e h)

pub on_live : (w : Ways) (s : ℕ) (q : List (Option ℕ)) → 1 ≤ length q → IsOn w s q → IsLiveAt w s q
on_live w s [] some h = absurd (omega arith)
on_live w s (x ∷ xs) some h = h

pub live_on : (w : Ways) (s : ℕ) (q : List (Option ℕ)) → IsLiveAt w s q → IsOn w s q
live_on w s [] h = tt
live_on w s (x ∷ xs) h = h

-- ---- costs

module _ (w : Ways) where
  beside_from-push : (i : ℕ) (xs : List (Option ℕ)) (y : Option ℕ) → beside_from w i (xs ++ y ∷ []) ≡ beside_from w i xs + owed (Some y) (w.choices (i + length xs))
  beside_from-push i [] y = let e = ap (λ k. owed (Some y) (w.choices k)) (by_zero i) in omega (arith, e)
    where
      by_zero : (i : ℕ) → i ≡ i + 0
      by_zero i = omega arith
  beside_from-push i (x ∷ xs) y =
      let h = beside_from-push (i + 1) xs y in
      let e = ap (λ k. owed (Some y) (w.choices k)) (by_one i (length xs)) in omega (arith, h, e)
    where
      by_one : (i n : ℕ) → (i + 1) + n ≡ i + suc n
      by_one i n = omega arith

  at_one : (xs : List (Option ℕ)) (t : Option (Option ℕ)) → owed t (w.choices (1 + length xs)) ≡ owed t (w.choices (suc (length xs)))
  at_one xs t = ap (λ k. owed t (w.choices k)) (by (length xs))
    where
      by : (n : ℕ) → 1 + n ≡ suc n
      by n = omega arith

  pub cost_found : (q : List (Option ℕ)) (y : Option ℕ) (t : Option (Option ℕ)) (before now : ℕ) → 1 ≤ length q → now + owed (Some y) (w.choices (length q)) ≤ before + owed t (w.choices (length q)) → now + beside w (q ++ y ∷ []) ≤ before + left_at w q t
  cost_found [] y t before now some h = absurd (omega arith)
  cost_found (x ∷ xs) y t before now some h =
      let a = beside_from-push 1 xs y in
      let b = at_one xs (Some y) in omega (arith, a, b, h)

  pub cost_pop : (q rest : List (Option ℕ)) (x : Option ℕ) (t : Option (Option ℕ)) (before now : ℕ) → q ≡ rest ++ x ∷ [] → now ≤ before + owed t (w.choices (length q)) → now + left_at w rest (Some x) ≤ before + left_at w q t
  cost_pop q [] x t before now e h =
      let g = subst (λ l. now ≤ before + owed t (w.choices (length l))) e h in
      subst (λ l. now + 0 ≤ before + left_at w l t) (sym e) (omega (arith, g))
  cost_pop q (y ∷ ys) x t before now e h =
      let g = subst (λ l. now ≤ before + owed t (w.choices (length l))) e h in
      let a = beside_from-push 1 ys x in
      let b = at_one ys (Some x) in
      subst (λ l. now + left_at w (y ∷ ys) (Some x) ≤ before + left_at w l t) (sym e) (omega (arith, g, a, b))

-- ---- the last pick

pub popped : (o : Option (Option ℕ)) (q rest : List (Option ℕ)) → MatchOption o (q ≡ []) (λ x. q ≡ rest ++ x ∷ []) → 1 ≤ length q → (x : Option ℕ) × (o ≡ Some x) × (q ≡ rest ++ x ∷ [])
popped None q rest h some = let e = ap length h in absurd (omega arith)
popped (Some x) q rest h some = (x, refl, h)
