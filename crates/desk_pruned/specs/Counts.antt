-- Where a search goes on when so many rows of a start were shown.
use Rattle.std.specs.Prelude.{ℕ, ◌+◌, nat_lt, Option, Some, None, [], ◌≡◌, if◌then◌else◌}
use Rattle.desk_base.specs.declared.search.results.Position.{Position}
use Rattle.desk_base.specs.search.Positions.{position_at}
use Rattle.desk_pruned.specs.Cuts.{Cut, after}
use Rattle.desk_pruned.specs.Trails.{cut_after}

-- what comes after a start
abbrev pub later : ℕ → Cut
later s = after (position_at (s + 1) [])

-- where the search goes on after a position of the start s of which c rows were shown
abbrev pub cut_due : ℕ → Option Position → ℕ → ℕ → Cut
cut_due per next s c = if nat_lt c per then cut_after next else later s

-- s is the start of the position; without one nothing was shown
abbrev pub IsAt : Option Position → ℕ → ℕ → Type 0
IsAt None s c = (s ≡ 0) × (c ≡ 0)
IsAt (Some n) s c = n.start ≡ s
