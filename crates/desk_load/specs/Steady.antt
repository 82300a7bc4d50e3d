-- What stays the same for some minutes.
use Rattle.std.specs.Prelude.{ℕ, ◌≡◌, ◌<◌, ◌≤◌}
use Rattle.desk_base.specs.rules.Limits.{end_of_minutes}
use Rattle.desk_spans.specs.Minutes.{EachMinute}

-- from m on and before another minute of the horizon the function has the value
pub record Stays {A : Type 0} (f : ℕ → A) (m : ℕ) (value : A) (until : ℕ) : Type 0 where
  pub later : m < until
  pub inside : until ≤ end_of_minutes
  pub value_at : EachMinute m until (λ k. f k ≡ value)
