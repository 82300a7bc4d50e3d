-- Starts in a run.
use Rattle.std.specs.Prelude.{ℕ, ◌≡◌, ◌+◌, ◌*◌, ◌≤◌, ◌<◌, Option, Some, None}
use Rattle.desk_load.specs.declared.view.starts.Starts.{Starts}

-- s is a whole number of steps after the first start
pub record IsAmong (starts : Starts) (s : ℕ) : Type 0 where
  pub steps : ℕ
  pub place : s ≡ starts.first + steps * starts.step

-- s is one of the starts: a whole number of steps after the first, and no later than the last
pub record IsStart (starts : Starts) (s : ℕ) : Type 0 where
  pub among : IsAmong starts s
  pub last : s ≤ starts.last

-- the least number from m on of which P holds, or there is none
abbrev pub IsNextOf : (ℕ → Type 0) → ℕ → Option ℕ → Type 0
IsNextOf P m None = (s : ℕ) → m ≤ s → P s → ⊥
IsNextOf P m (Some n) = (m ≤ n) × P n × ((s : ℕ) → m ≤ s → s < n → P s → ⊥)
