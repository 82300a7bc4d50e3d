-- Cuts of a search: what comes after a position, or past all that it begins.
use Rattle.std.specs.Prelude.{ℕ, ◌<◌, List, ◌∷◌, [], ◌++◌, Option, Some, None, Contains, ◌≡◌, ◌⊎◌, ⊤}
use Rattle.std.specs.declared.cmp.Ordering.TheVariants.{Less}
use Rattle.desk_base.specs.declared.search.results.Position.{Position}
use Rattle.desk_base.specs.search.Order.{pick_cmp, position_cmp}
use Rattle.desk_base.specs.search.Positions.{position_at}
use Rattle.desk_pruned.specs.Ways.{Ways}

-- the second picks come after the first, and do not begin with them
abbrev pub PastPicks : List (Option ℕ) → List (Option ℕ) → Type 0
PastPicks [] ys = ⊥
PastPicks (x ∷ xs) [] = ⊥
PastPicks (x ∷ xs) (y ∷ ys) = (pick_cmp x y ≡ Less) ⊎ ((x ≡ y) × PastPicks xs ys)

-- p comes after the position and all that it begins
abbrev pub IsPast : Position → Position → Type 0
IsPast a p = (a.start < p.start) ⊎ ((a.start ≡ p.start) × PastPicks a.picks p.picks)

-- where a search goes on: everywhere, after a position, or past all that one begins
pub data Cut : Type 0 where
  everything : Cut
  after : Position → Cut
  past : Position → Cut

-- p is where the search goes on
abbrev pub IsBeyond : Cut → Position → Type 0
IsBeyond everything p = ⊤
IsBeyond (after a) p = position_cmp a p ≡ Less
IsBeyond (past a) p = IsPast a p

-- what is left at some picks, when those up to one were tried as the next
abbrev pub cut_at : ℕ → List (Option ℕ) → Option (Option ℕ) → Cut
cut_at s picks None = after (position_at s picks)
cut_at s picks (Some x) = past (position_at s (picks ++ x ∷ []))

-- the least live position beyond a cut
abbrev pub IsNextLive : Ways → Cut → Position → Type 0
IsNextLive w k b = Contains w.lives b × IsBeyond k b × ((p : Position) → Contains w.lives p → IsBeyond k p → (p ≡ b) ⊎ (position_cmp b p ≡ Less))

-- no live position is beyond the cut
abbrev pub IsLast : Ways → Cut → Type 0
IsLast w k = (p : Position) → Contains w.lives p → IsBeyond k p → ⊥

-- the same live positions are beyond both cuts
abbrev pub LeaveTheSame : Ways → Cut → Cut → Type 0
LeaveTheSame w j k = (p : Position) → Contains w.lives p → (IsBeyond j p → IsBeyond k p) × (IsBeyond k p → IsBeyond j p)

-- each live position of a later start is beyond the cut
abbrev pub IsCutBefore : Ways → Cut → ℕ → Type 0
IsCutBefore w k s = (p : Position) → Contains w.lives p → s < p.start → IsBeyond k p
