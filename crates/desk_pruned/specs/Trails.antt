-- Where a search stands.
use Rattle.std.specs.Prelude.{ℕ, Bool, true, false, List, ◌∷◌, [], ◌++◌, take, Option, Some, None, ◌≡◌, ⊤}
use Rattle.desk_base.specs.declared.search.results.Position.{Position}
use Rattle.desk_base.specs.search.Positions.{position_at}
use Rattle.desk_pruned.specs.declared.roots.Root.{Root}
use Rattle.desk_pruned.specs.Ways.{Ways, IsLiveAt}
use Rattle.desk_pruned.specs.Cuts.{Cut, everything, after, cut_at, IsNextLive, IsLast, LeaveTheSame}
use Rattle.desk_pruned.specs.Starts.{AreRoots}

-- there are no picks yet, or they are live
abbrev pub IsOn : Ways → ℕ → List (Option ℕ) → Type 0
IsOn w s [] = ⊤
IsOn w s (x ∷ xs) = IsLiveAt w s (x ∷ xs)

-- which pick of the first leaf was tried last
abbrev pub root_tried : List (Option ℕ) → Option (Option ℕ) → Option (Option ℕ)
root_tried [] tried = tried
root_tried (x ∷ xs) tried = Some x

-- what is left once all that the first of the picks begins was passed
abbrev pub root_cut : ℕ → List (Option ℕ) → Option (Option ℕ) → Cut
root_cut s picks tried = cut_at s [] (root_tried picks tried)

-- below the first of the picks: the next live position, or none and the picks are taken off
abbrev pub IsClimbed : Ways → ℕ → List (Option ℕ) → Option (Option ℕ) → Bool → List (Option ℕ) → Type 0
IsClimbed w s picks tried true now = IsNextLive w (cut_at s picks tried) (position_at s now) × (take 1 now ≡ take 1 picks)
IsClimbed w s picks tried false now = LeaveTheSame w (cut_at s picks tried) (root_cut s picks tried) × (now ≡ [])

-- the next live position is stood on, or there is none. The roots are beyond all that its first pick begins
abbrev pub HasGone : Ways → Cut → Bool → ℕ → List (Option ℕ) → List Root → Type 0
HasGone w k true s picks roots = IsNextLive w k (position_at s picks) × AreRoots w (root_cut s picks None) roots
HasGone w k false s picks roots = IsLast w k × (picks ≡ [])

-- the cut after a position, if one is given
abbrev pub cut_after : Option Position → Cut
cut_after None = everything
cut_after (Some a) = after a

-- the pick was laid, or is not live with the others
abbrev pub HasTried : Ways → ℕ → List (Option ℕ) → Option ℕ → Bool → List (Option ℕ) → Type 0
HasTried w s picks x true now = IsLiveAt w s (picks ++ x ∷ []) × (now ≡ picks ++ x ∷ [])
HasTried w s picks x false now = (IsLiveAt w s (picks ++ x ∷ []) → ⊥) × (now ≡ picks)

-- all of the rest was laid, or the picks now are live no longer with the next of it
abbrev pub Reaches : Ways → ℕ → List (Option ℕ) → Option (Option ℕ) → List (Option ℕ) → Type 0
Reaches w s whole None now = now ≡ whole
Reaches w s whole (Some x) now = (more : List (Option ℕ)) × (whole ≡ now ++ x ∷ more) × (IsLiveAt w s (now ++ x ∷ []) → ⊥)
