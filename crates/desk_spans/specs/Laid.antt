-- How stretches lie in a window, and the values that they mean.
use Rattle.std.specs.Prelude.{◌≡◌, ◌≢◌, ℕ, ◌-◌, ◌<◌, List, [], ◌∷◌, length, map, nat_lt, if◌then◌else◌, ℤ, pos}
use Rattle.std.specs.List.{AllAdjacentBelow, range_with_len}
use Rattle.desk_spans.specs.declared.stretch.Stretch.{Stretch}
use Rattle.desk_spans.specs.Minutes.{EachMinute}
use Rattle.desk_spans.specs.Timeline.{Timeline}

-- the value of the first stretch that ends above the minute
abbrev pub value_in : List Stretch → ℕ → ℤ
value_in [] minute = pos 0
value_in (s ∷ rest) minute = if nat_lt minute s.end then s.value else value_in rest minute

-- where the first stretch ends
abbrev pub first_end : List Stretch → ℕ
first_end [] = 0
first_end (s ∷ rest) = s.end

-- the stretches lie one behind the other, none empty, and fill the minutes from `from` up to `to`
abbrev pub Fill : ℕ → List Stretch → ℕ → Type 0
Fill from [] to = from ≡ to
Fill from (s ∷ rest) to = (from < s.end) × Fill s.end rest to

-- no two neighbours have the same value
abbrev pub AreJoined : List Stretch → Type 0
AreJoined stretches = AllAdjacentBelow (λ s t. s.value ≢ t.value) stretches (length stretches)

-- the window with the values that the stretches mean
abbrev pub timeline : ℕ → ℕ → List Stretch → Timeline
timeline from to stretches = record { from = from; values = map (value_in stretches) (range_with_len from (to - from)) }

-- what holds of the parts of every profile
pub record IsLaid (from to : ℕ) (stretches : List Stretch) : Type 0 where
  pub fill : Fill from stretches to
  pub joined : AreJoined stretches

-- the new stretches are the old, which end at `end`, with one value more from there up to `to`
pub record IsLengthened (from end to : ℕ) (value : ℤ) (old new : List Stretch) : Type 0 where
  pub laid : IsLaid from to new
  pub before : EachMinute from end (λ m. value_in new m ≡ value_in old m)
  pub level : EachMinute end to (λ m. value_in new m ≡ value)
