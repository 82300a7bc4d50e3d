-- What a profile means: a window of minutes, and one signed value for each.
use Rattle.std.specs.Prelude.{ℕ, ◌+◌, ◌-◌, ◌^◌, ◌<◌, ◌≤◌, List, length, fold, slice_index_or, slice_range, ℤ, pos, ◌+ℤ◌}
use Rattle.std.specs.Int.RustNames.{unsigned_abs}

-- a window that begins at `from`, and its values, one for each minute, in order
pub record Timeline : Type 0 where
  pub from : ℕ
  pub values : List ℤ

-- the end of the window, which is not in it
abbrev pub end_of : Timeline → ℕ
end_of t = t.from + length t.values

-- the value at a minute of the window
abbrev pub value_at : Timeline → ℕ → ℤ
value_at t minute = slice_index_or t.values (minute - t.from) (pos 0)

-- the sum of the values at the minutes of a range
abbrev pub sum_on : Timeline → ℕ → ℕ → ℤ
sum_on t from to = fold ◌+ℤ◌ (pos 0) (slice_range t.values (from - t.from) (to - t.from))

-- the range is not empty and lies inside the window
pub record IsRangeOf (t : Timeline) (from to : ℕ) : Type 0 where
  pub begins_inside : t.from ≤ from
  pub not_empty : from < to
  pub ends_inside : to ≤ end_of t

-- how far from 0 a value may be, either way
abbrev pub value_limit : ℕ
value_limit = 10 ^ 14

-- the value is within the limit
abbrev pub IsBounded : ℤ → Type 0
IsBounded value = unsigned_abs value ≤ value_limit
