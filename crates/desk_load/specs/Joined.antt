-- A resource that comes or goes: its weight and its list among those of the others.
use Rattle.std.specs.Prelude.{◌≡◌, ℕ, nat_lt, List, ◌∷◌, ◌++◌, filter, pos}
use Rattle.desk_base.specs.rules.Limits.{first_minute, end_of_minutes}
use Rattle.desk_spans.specs.Minutes.{EachMinute}
use Rattle.desk_spans.specs.Timeline.{Timeline, end_of, value_at}
use Rattle.desk_load.specs.declared.weights.Weight.{Weight}

-- the rows of lower numbers than n and those of higher ones
abbrev pub rows_off : {A : Type 0} → (A → ℕ) → ℕ → List A → List A
rows_off number n xs = filter (λ x. nat_lt (number x) n) xs ++ filter (λ x. nat_lt n (number x)) xs

-- the same, with a row between them
abbrev pub rows_with : {A : Type 0} → (A → ℕ) → ℕ → A → List A → List A
rows_with number n x xs = filter (λ x. nat_lt (number x) n) xs ++ x ∷ filter (λ x. nat_lt n (number x)) xs

-- the values are 0 over the horizon
pub record IsNothing (p : Timeline) : Type 0 where
  pub begin : p.from ≡ first_minute
  pub end : end_of p ≡ end_of_minutes
  pub values : EachMinute first_minute end_of_minutes (λ m. value_at p m ≡ pos 0)

-- the new weights are the old with one of nothing for n
pub record IsWeightAdded (n : ℕ) (old new : List Weight) : Type 0 where
  pub weight : Timeline
  pub nothing : IsNothing weight
  pub rows : new ≡ rows_with (λ (w : Weight). w.resource) n (record { resource = n; weight = weight }) old
