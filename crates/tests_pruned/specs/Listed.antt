-- A search over a written list of live positions.
use Rattle.std.specs.Prelude.{ℕ, ◌≤◌, List, [], ◌∷◌, Option, Some, None, Contains, nat_lt, if◌then◌else◌}
use Rattle.std.specs.List.{slice_index_or}
use Rattle.desk_base.specs.declared.search.results.Position.{Position}
use Rattle.desk_base.specs.search.Positions.{position_at}
use Rattle.desk_pruned.specs.Ways.{Ways}
use Rattle.tests_pruned.specs.declared.listed.Listed.{Listed}

abbrev pub ways_of : Listed → Ways
ways_of s = record { lives = s.lives; earliest = s.earliest; leaves = s.leaves; choices = λ i. slice_index_or s.choices i []; resources = s.resources }

-- the least start from one on at which the pick alone is among the positions
abbrev pub IsFirstAmong : List Position → Option ℕ → ℕ → Option ℕ → Type 0
IsFirstAmong ps x from None = (u : ℕ) → from ≤ u → Contains ps (position_at u (x ∷ [])) → ⊥
IsFirstAmong ps x from (Some t) = (from ≤ t) × Contains ps (position_at t (x ∷ [])) × ((u : ℕ) → from ≤ u → Contains ps (position_at u (x ∷ [])) → t ≤ u)

abbrev pub earlier_of : ℕ → Option ℕ → ℕ
earlier_of s None = s
earlier_of s (Some t) = if nat_lt t s then t else s
