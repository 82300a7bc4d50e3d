-- Positions: which of them come after another, and the rows of those that are full.
use Rattle.std.specs.Prelude.{ℕ, ◌==◌, Bool, List, map, filter, length, Option, Some, None}
use Rattle.std.specs.Ordering.{is_lt}
use Rattle.desk_base.specs.rows.Types.{Found, Position}
use Rattle.desk_base.specs.search.Order.{position_cmp}

-- the position of a start and picks
abbrev pub position_at : ℕ → List (Option ℕ) → Position
position_at s picks = record { start = s; picks = picks }

-- it has a pick for each leaf
abbrev pub is_full : ℕ → Position → Bool
is_full leaves p = length p.picks == leaves

-- the row of a full position
abbrev pub found_of : Position → Found
found_of p = record { start = p.start; picks = p.picks }

-- a comes before p
abbrev pub precedes : Position → Position → Bool
precedes a p = is_lt (position_cmp a p)

-- the positions of a list that come after one, or all
abbrev pub positions_after : Option Position → List Position → List Position
positions_after None ps = ps
positions_after (Some a) ps = filter (precedes a) ps

-- the rows of the positions that have a pick for each of so many leaves
abbrev pub rows_among : ℕ → List Position → List Found
rows_among leaves ps = map found_of (filter (is_full leaves) ps)
