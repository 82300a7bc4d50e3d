-- Runs of minutes, and the sets of minutes that they are.
use Rattle.std.specs.Prelude.{◌≡◌, ⊤, ℕ, ◌+◌, ◌<◌, ◌≤◌, Bool, false, ◌&&◌, ◌||◌, nat_le, nat_lt, if◌then◌else◌, List, [], ◌∷◌, All}
use Rattle.desk_spans.specs.declared.run.Run.{Run}

-- the minute is in the run
abbrev pub covers : Run → ℕ → Bool
covers run minute = nat_le run.from minute && nat_lt minute run.to

-- the minute is in one of the runs
abbrev pub has_minute : List Run → ℕ → Bool
has_minute [] minute = false
has_minute (run ∷ rest) minute = covers run minute || has_minute rest minute

-- the runs begin at `low` or later and rise, none is empty, and no two touch
abbrev pub AreApart : ℕ → List Run → Type 0
AreApart low [] = ⊤
AreApart low (run ∷ rest) = (low ≤ run.from) × (run.from < run.to) × AreApart (run.to + 1) rest

-- the new runs are apart, and have the minutes of the old and of one run more, which ends behind them
pub record IsAppended (old : List Run) (run : Run) (new : List Run) : Type 0 where
  pub apart : AreApart 0 new
  pub minutes : (m : ℕ) → has_minute new m ≡ (has_minute old m || covers run m)
  pub ends : (bound : ℕ) → run.to ≤ bound → All (λ r. r.to ≤ bound) old → All (λ r. r.to ≤ bound) new

-- the runs without the first, where that ends at or before the minute
abbrev pub without_ended : List Run → ℕ → List Run
without_ended [] minute = []
without_ended (run ∷ rest) minute = if nat_le run.to minute then rest else run ∷ rest
