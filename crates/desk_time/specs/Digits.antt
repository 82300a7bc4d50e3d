-- Numbers with a fixed count of decimal digits.
use Rattle.std.specs.Prelude.{ℕ, ◌≡◌, ◌+◌, ◌/◌, ◌%◌, ◌<◌, List, [], ◌∷◌, ◌++◌}

-- the two digits of a number below 100
abbrev pub two_digits : ℕ → List ℕ
two_digits n = (48 + n / 10) ∷ (48 + n % 10) ∷ []

-- the four digits of a number below 10,000
abbrev pub four_digits : ℕ → List ℕ
four_digits n = two_digits (n / 100) ++ two_digits (n % 100)

-- the text is the two digits of n
pub record IsTwoDigits (text : List ℕ) (n : ℕ) : Type 0 where
  pub below : n < 100
  pub written : text ≡ two_digits n

-- the text is the four digits of n
pub record IsFourDigits (text : List ℕ) (n : ℕ) : Type 0 where
  pub below : n < 10000
  pub written : text ≡ four_digits n
