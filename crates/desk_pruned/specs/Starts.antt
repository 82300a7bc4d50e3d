-- The picks of the first leaf, each with what is known of its starts.
use Rattle.std.specs.Prelude.{ℕ, Bool, true, false, nat_le, ◌+◌, ◌≤◌, List, ◌∷◌, [], map, Option, Some, None, Contains, ◌≡◌, ◌⊎◌, ⊤, if◌then◌else◌}
use Rattle.std.specs.Ordering.{is_eq}
use Rattle.std.specs.declared.cmp.Ordering.TheVariants.{Less}
use Rattle.desk_base.specs.declared.search.results.Position.{Position}
use Rattle.desk_base.specs.search.Order.{pick_cmp, position_cmp}
use Rattle.desk_base.specs.search.Positions.{position_at}
use Rattle.desk_pruned.specs.declared.roots.Next.{Next}
use Rattle.desk_pruned.specs.declared.roots.Next.TheVariants.{Unasked, At, Never}
use Rattle.desk_pruned.specs.declared.roots.Root.{Root}
use Rattle.desk_pruned.specs.declared.roots.First.{First}
use Rattle.desk_pruned.specs.Ways.{Ways, IsLiveAt, cost}
use Rattle.desk_pruned.specs.Costs.{comes}
use Rattle.desk_pruned.specs.Cuts.{Cut, IsBeyond, IsNextLive, IsLast}

-- a first pick at a start
abbrev pub root_at : ℕ → Option ℕ → Position
root_at t x = position_at t (x ∷ [])

-- the least start beyond the cut at which the pick alone is live
abbrev pub IsNextStart : Ways → Cut → Option ℕ → Option ℕ → Type 0
IsNextStart w k x None = (u : ℕ) → IsBeyond k (root_at u x) → IsLiveAt w u (x ∷ []) → ⊥
IsNextStart w k x (Some t) = IsBeyond k (root_at t x) × IsLiveAt w t (x ∷ []) × ((u : ℕ) → IsBeyond k (root_at u x) → IsLiveAt w u (x ∷ []) → t ≤ u)

-- what a row says of that start is so
abbrev pub IsKnown : Ways → Cut → Option ℕ → Next → Type 0
IsKnown w k x Unasked = ⊤
IsKnown w k x (At t) = IsNextStart w k x (Some t)
IsKnown w k x Never = IsNextStart w k x None

-- a row for each choice of the first leaf, and what it says is so
pub record AreRoots (w : Ways) (k : Cut) (roots : List Root) : Type 0 where
  pub picks : map (λ (r : Root). r.pick) roots ≡ w.choices 0
  pub known : (r : Root) → Contains roots r → IsKnown w k r.pick r.next

-- the least of the starts that are known, and there the least pick
abbrev pub IsLeastRoot : List Root → Option First → Type 0
IsLeastRoot roots None = (r : Root) (u : ℕ) → Contains roots r → r.next ≡ At u → ⊥
IsLeastRoot roots (Some f) =
    Contains roots (record { pick = f.pick; next = At f.start })
    × ((r : Root) (u : ℕ) → Contains roots r → r.next ≡ At u → (root_at u r.pick ≡ root_at f.start f.pick) ⊎ (position_cmp (root_at f.start f.pick) (root_at u r.pick) ≡ Less))

-- the first live position beyond the cut, which has one pick, or none is beyond it
abbrev pub IsFirstRoot : Ways → Cut → Option First → Type 0
IsFirstRoot w k None = IsLast w k
IsFirstRoot w k (Some f) = IsNextLive w k (root_at f.start f.pick)

-- whether nothing is known
abbrev pub is_unasked : Next → Bool
is_unasked Unasked = true
is_unasked (At t) = false
is_unasked Never = false

-- the row of a pick of which nothing is known
abbrev pub unasked_root : Option ℕ → Root
unasked_root x = record { pick = x; next = Unasked }

-- whether a pick is another
abbrev pub is_same : Option ℕ → Option ℕ → Bool
is_same x y = is_eq (pick_cmp x y)

-- nothing is known of the row of a pick any more
abbrev pub forgotten : Option ℕ → Root → Root
forgotten x r = if is_same r.pick x then unasked_root r.pick else r

-- whether the start is at or before s
abbrev pub is_passed : Next → ℕ → Bool
is_passed Unasked s = false
is_passed (At t) s = nat_le t s
is_passed Never s = false

-- nothing is known any more of a row whose start is at or before s
abbrev pub left : ℕ → Root → Root
left s r = if is_passed r.next s then unasked_root r.pick else r

-- the least start at which the pick is still to come, where those up to one were tried at s
abbrev pub low : ℕ → Option (Option ℕ) → Option ℕ → ℕ
low s tried x = if comes tried x then s else s + 1

-- the step that a row still owes: none where its start is known
abbrev pub asking : Root → ℕ
asking r = if is_unasked r.next then cost r.pick else 0

-- the steps that the rows still owe
abbrev pub unasked : List Root → ℕ
unasked [] = 0
unasked (r ∷ rs) = asking r + unasked rs
