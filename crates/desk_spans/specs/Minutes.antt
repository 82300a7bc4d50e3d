-- Facts of the minutes of a range, whose end is not in it.
use Rattle.std.specs.Prelude.{ℕ, ◌<◌, ◌≤◌}

-- a fact holds at each minute of the range
abbrev pub EachMinute : ℕ → ℕ → (ℕ → Type 0) → Type 0
EachMinute from to P = (m : ℕ) → from ≤ m → m < to → P m

-- a fact holds at some minute of the range
abbrev pub SomeMinute : ℕ → ℕ → (ℕ → Type 0) → Type 0
SomeMinute from to P = (m : ℕ) × (from ≤ m) × (m < to) × P m
