-- What a search goes over.
use Rattle.std.specs.Prelude.{ℕ, ◌+◌, ◌≤◌, List, ◌∷◌, [], ◌++◌, length, Option, Some, None, Contains, ◌≡◌, ◌⊎◌, ⊤}
use Rattle.std.specs.List.Sorted.{IsStrictlySortedBy}
use Rattle.std.specs.declared.cmp.Ordering.TheVariants.{Less}
use Rattle.desk_base.specs.declared.search.results.Position.{Position}
use Rattle.desk_base.specs.search.Order.{pick_cmp, position_cmp}
use Rattle.desk_base.specs.search.Positions.{position_at}

-- the live positions, a start before which there is none, how many picks a full one has, what each leaf may have as its pick, and how many resources there are
pub record Ways : Type 0 where
  pub lives : List Position
  pub earliest : ℕ
  pub leaves : ℕ
  pub choices : ℕ → List (Option ℕ)
  pub resources : ℕ

-- the position is live
abbrev pub IsLiveAt : Ways → ℕ → List (Option ℕ) → Type 0
IsLiveAt w s picks = Contains w.lives (position_at s picks)

-- the steps that one try of a pick takes at most: a leaf that is left out takes none
abbrev pub cost : Option ℕ → ℕ
cost None = 0
cost (Some r) = 1

-- the steps that one try of each takes at most
abbrev pub costs : List (Option ℕ) → ℕ
costs [] = 0
costs (x ∷ xs) = cost x + costs xs

-- the live positions rise, each starts no earlier than the earliest and has a pick, what begins one is one, and each pick of one is among the choices of its leaf, which rise
pub record IsSound (w : Ways) : Type 0 where
  pub rising : IsStrictlySortedBy position_cmp w.lives
  pub late : (p : Position) → Contains w.lives p → w.earliest ≤ p.start
  pub some : (p : Position) → Contains w.lives p → 1 ≤ length p.picks
  pub short : (p : Position) → Contains w.lives p → length p.picks ≤ w.leaves
  pub begun : (s : ℕ) (first more : List (Option ℕ)) → 1 ≤ length first → IsLiveAt w s (first ++ more) → IsLiveAt w s first
  pub offered : (s : ℕ) (first : List (Option ℕ)) (x : Option ℕ) → IsLiveAt w s (first ++ x ∷ []) → Contains (w.choices (length first)) x
  pub rise : (i : ℕ) → IsStrictlySortedBy pick_cmp (w.choices i)
  pub few : (i : ℕ) → costs (w.choices i) ≤ w.resources

-- a pick comes after one, if one is given
abbrev pub Comes : Option (Option ℕ) → Option ℕ → Type 0
Comes None z = ⊤
Comes (Some x) z = pick_cmp x z ≡ Less

-- the least pick after one with which the picks are live
abbrev pub IsNextPick : Ways → ℕ → List (Option ℕ) → Option (Option ℕ) → Option (Option ℕ) → Type 0
IsNextPick w s picks tried None = (z : Option ℕ) → Comes tried z → IsLiveAt w s (picks ++ z ∷ []) → ⊥
IsNextPick w s picks tried (Some y) =
    IsLiveAt w s (picks ++ y ∷ []) × Comes tried y × ((z : Option ℕ) → Comes tried z → IsLiveAt w s (picks ++ z ∷ []) → (z ≡ y) ⊎ (pick_cmp y z ≡ Less))

-- the least start, not below one, at which the pick alone is live
abbrev pub IsFirstStart : Ways → Option ℕ → ℕ → Option ℕ → Type 0
IsFirstStart w x from None = (u : ℕ) → from ≤ u → IsLiveAt w u (x ∷ []) → ⊥
IsFirstStart w x from (Some t) = (from ≤ t) × IsLiveAt w t (x ∷ []) × ((u : ℕ) → from ≤ u → IsLiveAt w u (x ∷ []) → t ≤ u)
