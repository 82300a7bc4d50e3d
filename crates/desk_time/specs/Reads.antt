-- What a reader answers.
use Rattle.std.specs.Prelude.{ℕ, Option, MatchOption}

-- the answer is a number that the text has, and None exactly where it has none
abbrev pub Reads : (ℕ → Type 0) → Option ℕ → Type 0
Reads Has answer = MatchOption answer ((n : ℕ) → ¬ (Has n)) Has
