-- Rows that rise by two numbers, and the bounds of their times.
use Rattle.std.specs.Prelude.{◌≡◌, ⊤, ℕ, ◌<◌, ◌≤◌, ◌⊎◌, Bool, ◌&&◌, ◌==◌, nat_le, nat_lt, List, [], ◌∷◌, fold, if◌then◌else◌}
use Rattle.std.specs.List.{AllByRecursion}

-- x has a smaller owner than y, or the same and no greater rank
abbrev pub IsUnder : {A : Type 0} → (A → ℕ) → (A → ℕ) → A → A → Type 0
IsUnder owner rank x y = (owner x < owner y) ⊎ ((owner x ≡ owner y) × (rank x ≤ rank y))

-- the rows rise by owner, and those of one owner by rank
unfoldable pub Rise : {A : Type 0} → (A → ℕ) → (A → ℕ) → List A → Type 0
Rise owner rank [] = ⊤
Rise owner rank (x ∷ xs) = AllByRecursion (IsUnder owner rank x) xs × Rise owner rank xs

-- the row belongs to the owner
abbrev pub owns : {A : Type 0} → (A → ℕ) → ℕ → A → Bool
owns owner o x = owner x == o

-- and has the rank
abbrev pub ranks : {A : Type 0} → (A → ℕ) → (A → ℕ) → ℕ → ℕ → A → Bool
ranks owner rank o r x = (owner x == o) && (rank x == r)

-- the row's time holds the minute
abbrev pub holds : {A : Type 0} → (A → ℕ) → (A → ℕ) → ℕ → A → Bool
holds from to m x = nat_le (from x) m && nat_lt m (to x)

-- n, or k where it lies after m and before n
abbrev pub nearer : ℕ → ℕ → ℕ → ℕ
nearer m n k = if nat_lt m k && nat_lt k n then k else n

-- n, or the nearest bound after m of the times of rows where it lies before n
abbrev pub nearest_bound : {A : Type 0} → (A → ℕ) → (A → ℕ) → ℕ → ℕ → List A → ℕ
nearest_bound from to m n xs = fold (λ n x. nearer m (nearer m n (from x)) (to x)) n xs

-- from m on and before n each row holds a minute exactly where it holds m
pub record AreStill {A : Type 0} (from to : A → ℕ) (m n : ℕ) (xs : List A) : Type 0 where
  pub at : (k : ℕ) → m ≤ k → k < n → AllByRecursion (λ x. holds from to k x ≡ holds from to m x) xs
