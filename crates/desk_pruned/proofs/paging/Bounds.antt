-- The steps of a page.
use Rattle.std.proofs.Common.{◌≡◌, ℕ, suc, ◌+◌, ◌*◌, ◌≤◌, Bool, true, false, List, [], ◌∷◌, length, Option, Some, None, ap, ◌∙◌, arith}
use Rattle.std.proofs.Math.Nat.{add-mul, mul-add, mul-le-mul_right, one-mul}
use Rattle.desk_base.specs.search.Positions.{position_at}
use Rattle.desk_pruned.specs.declared.roots.Root.{Root}
use Rattle.desk_pruned.specs.Ways.{Ways, IsSound}
use Rattle.desk_pruned.specs.Cuts.{Cut}
use Rattle.desk_pruned.specs.Costs.{owed, beside_from, beside, left_at, bound}
use Rattle.desk_pruned.specs.Trails.{IsOn, HasGone}
use Rattle.desk_pruned.proofs.cutting.NextPicks.{owed_all}
use Rattle.desk_pruned.proofs.cutting.Climbing.{live_on}

pub gone_on : (w : Ways) (k : Cut) (found : Bool) (s : ℕ) (q : List (Option ℕ)) (roots : List Root) → found ≡ true → HasGone w k found s q roots → IsOn w s q
gone_on w k true s q roots e h = live_on w s q h.0.0
gone_on w k false s q roots e h = cc

one_more : (n k : ℕ) → (n + 1) * k ≡ n * k + k
one_more n k = add-mul n 1 k ∙ ap (λ m. n * k + m) (one-mul k)

suc_more : (n k : ℕ) → suc n * k ≡ n * k + k
suc_more n k = ap (λ m. m * k) (by n) ∙ one_more n k
  where
    by : (n : ℕ) → suc n ≡ n + 1
    by n = omega arith

module _ (w : Ways) (sound : IsSound w) where
  few : (t : Option (Option ℕ)) (i : ℕ) → owed t (w.choices i) ≤ w.resources
  few t i = omega (arith, owed_all t (w.choices i), sound.few i)

  beside_from_few : (i : ℕ) (xs : List (Option ℕ)) → beside_from w i xs ≤ length xs * w.resources
  beside_from_few i [] = omega arith
  beside_from_few i (x ∷ xs) =
      let h = beside_from_few (i + 1) xs in
      let f = few (Some x) i in
      let e = suc_more (length xs) w.resources in omega arith

  -- at a place all but the choices of the next leaf was counted
  pub left_here : (q : List (Option ℕ)) (t : Option (Option ℕ)) → left_at w q t ≤ beside w q + w.resources
  left_here [] t = omega arith
  left_here (x ∷ xs) t = let f = few t (length (x ∷ xs)) in omega arith

  left_few : (q : List (Option ℕ)) (t : Option (Option ℕ)) → left_at w q t ≤ length q * w.resources
  left_few [] t = omega arith
  left_few (x ∷ xs) t =
      let h = beside_from_few 1 xs in
      let f = few t (length (x ∷ xs)) in
      let e = suc_more (length xs) w.resources in omega arith

  on_short : (s : ℕ) (q : List (Option ℕ)) → IsOn w s q → length q ≤ w.leaves
  on_short s [] h = omega arith
  on_short s (x ∷ xs) h = sound.short (position_at s (x ∷ xs)) h

  -- one position more is passed
  pub passed_more : (first now new here there owed then : ℕ) (q : List (Option ℕ)) (done : ℕ) → now + beside w q + owed ≤ first + here + done * (w.resources + 1) → new + there + then ≤ now + left_at w q None + owed + 1 → new + there + then ≤ first + here + (done + 1) * (w.resources + 1)
  passed_more first now new here there owed then q done h g =
      let l = left_here q None in
      let e = one_more done (w.resources + 1) in omega arith

  -- the beginning and the first position
  pub first_within : (first begun stood owed then s : ℕ) (q : List (Option ℕ)) (t : Option (Option ℕ)) → IsOn w s q → owed ≤ w.resources → begun ≤ first + length q + 1 → stood + then ≤ begun + left_at w q t + owed + 1 → stood + then ≤ first + (w.leaves + 2) * (w.resources + 1)
  first_within first begun stood owed then s q t on few b d =
      let l = left_few q t in
      let short = on_short s q on in
      let much = mul-le-mul_right w.resources short in
      let leaves : w.leaves * (w.resources + 1) ≡ w.leaves * w.resources + w.leaves * 1 = mul-add w.leaves w.resources 1 in
      let two : (w.leaves + 2) * (w.resources + 1) ≡ w.leaves * (w.resources + 1) + 2 * (w.resources + 1) = add-mul w.leaves 2 (w.resources + 1) in
      omega (arith, leaves, two, much, l)

  -- the first position of a later start
  pub skipped_within : (first stood then none : ℕ) → none ≡ 0 → stood + then ≤ first + w.resources + 1 → stood + none + then ≤ first + (w.leaves + 2) * (w.resources + 1)
  skipped_within first stood then none e d =
      let two : (w.leaves + 2) * (w.resources + 1) ≡ w.leaves * (w.resources + 1) + 2 * (w.resources + 1) = add-mul w.leaves 2 (w.resources + 1) in
      omega (arith, two, e)

  -- the first position, and those that are passed
  pub all_within : (first stood here end n : ℕ) → stood + here ≤ first + (w.leaves + 2) * (w.resources + 1) → end ≤ stood + here + n * (w.resources + 1) → end ≤ first + bound w n
  all_within first stood here end n a b =
      let total : bound w n ≡ n * (w.resources + 1) + (w.leaves + 2) * (w.resources + 1) = ap (λ m. m * (w.resources + 1)) (by n w.leaves) ∙ add-mul n (w.leaves + 2) (w.resources + 1) in
      omega (arith, total)
    where
      by : (n m : ℕ) → (n + m) + 2 ≡ n + (m + 2)
      by n m = omega arith

  -- one position more that is due
  pub due_more : (first now new here there owed done : ℕ) → now + owed ≤ first + here + done * (w.resources + 1) → new + there ≤ now + owed + w.resources + 1 → new + there ≤ first + here + (done + 1) * (w.resources + 1)
  due_more first now new here there owed done h g = let e = one_more done (w.resources + 1) in omega arith
