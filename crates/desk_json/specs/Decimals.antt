-- Numbers read from their decimals.
use Rattle.std.specs.Prelude.{◌≡◌, ◌≢◌, ℕ, ◌<◌, ◌≤◌, ◌^◌, ◌⊎◌, List, length, slice_index, decimal, Option, Some, None}
use Rattle.desk_base.specs.rules.Limits.{id_limit}

-- a sign in front, or a zero before further digits
abbrev pub IsPadded : List ℕ → Type 0
IsPadded text = (slice_index text 0 ≡ 43) ⊎ ((slice_index text 0 ≡ 48) × (1 < length text))

-- the number below 2^64 that is written so, or none where there is none
abbrev pub ReadsNumber : List ℕ → Option ℕ → Type 0
ReadsNumber text (Some n) = text ≡ decimal n
ReadsNumber text None = (n : ℕ) → n < 2 ^ 64 → text ≢ decimal n

-- a number that names a row
abbrev pub IsId : ℕ → Type 0
IsId n = (1 ≤ n) × (n ≤ id_limit)

-- the id that is written so, or none where there is none
abbrev pub ReadsId : List ℕ → Option ℕ → Type 0
ReadsId text (Some id) = IsId id × (text ≡ decimal id)
ReadsId text None = (id : ℕ) → IsId id → text ≢ decimal id
