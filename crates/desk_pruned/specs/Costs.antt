-- The steps that a search may still spend beside the picks of a place.
use Rattle.std.specs.Prelude.{ℕ, ◌+◌, ◌*◌, Bool, true, List, ◌∷◌, [], length, Option, Some, None, if◌then◌else◌}
use Rattle.std.specs.Ordering.{is_lt}
use Rattle.desk_base.specs.search.Order.{pick_cmp}
use Rattle.desk_pruned.specs.Ways.{Ways, cost}

-- whether a pick comes after one, if one is given
abbrev pub comes : Option (Option ℕ) → Option ℕ → Bool
comes None z = true
comes (Some x) z = is_lt (pick_cmp x z)

-- to try a pick, where it comes after one
abbrev pub price : Option (Option ℕ) → Option ℕ → ℕ
price tried z = if comes tried z then cost z else 0

-- to try those of the picks that come after one
abbrev pub owed : Option (Option ℕ) → List (Option ℕ) → ℕ
owed tried [] = 0
owed tried (z ∷ zs) = price tried z + owed tried zs

-- the same once a next pick was found; none where there was none
abbrev pub owed_after : Option (Option ℕ) → List (Option ℕ) → ℕ
owed_after None zs = 0
owed_after (Some y) zs = owed (Some y) zs

-- to try, leaf by leaf from leaf i on, the picks that come after these
abbrev pub beside_from : Ways → ℕ → List (Option ℕ) → ℕ
beside_from w i [] = 0
beside_from w i (x ∷ xs) = owed (Some x) (w.choices i) + beside_from w (i + 1) xs

-- the first leaf goes by starts, and owes nothing here
abbrev pub beside : Ways → List (Option ℕ) → ℕ
beside w [] = 0
beside w (x ∷ xs) = beside_from w 1 xs

-- besides, to try the next pick after one
abbrev pub left_at : Ways → List (Option ℕ) → Option (Option ℕ) → ℕ
left_at w [] tried = 0
left_at w (x ∷ xs) tried = beside_from w 1 xs + owed tried (w.choices (length (x ∷ xs)))

-- the steps of a page that passes n positions, with c resources. To go on after a position tries a pick for each leaf, and at most c others for each on the way
-- up: leaves * (c + 1) steps. Each choice of the first leaf is asked for its start at most once, and once more for each of its positions that was passed: c steps,
-- and one for each position. Behind each position at most c picks are tried: c steps. Where a start is left after its first rows, the choices may all be asked
-- again: c steps, in the place of picks behind the last of those rows. A leaf that is left out counts no step
abbrev pub bound : Ways → ℕ → ℕ
bound w n = (n + w.leaves + 2) * (w.resources + 1)
