-- Clocks that are not set.
use Rattle.std.specs.Prelude.{ℕ, ℤ, ◌≡◌, ◌+◌, ◌-◌, ◌<◌, ◌≤◌, List}
use Rattle.desk_base.specs.meaning.Time.{clock_minute}

-- from m on and before n clocks go on by no more than the time that passes
pub record GoesOn (shifts : List (ℕ × ℤ)) (m n : ℕ) : Type 0 where
  pub on : (k : ℕ) → m ≤ k → k < n → (e : ℕ) × (e ≤ k - m) × (clock_minute shifts k ≡ clock_minute shifts m + e)
