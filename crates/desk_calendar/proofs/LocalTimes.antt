-- The two forms of local time are one.
use Rattle.std.proofs.Common.{◌≡◌, ℕ, ◌/◌, ◌%◌, ℤ, pos, negsuc, ◌+ℤ◌, List, [], ◌∷◌, Some, None, cond, nat_le, refl, ap, ◌∙◌}
use Rattle.std.specs.Option.{option_map_or, option_or}
use Rattle.desk_base.specs.rules.Limits.{minutes_a_day}
use Rattle.desk_base.specs.meaning.Time.{last_begun, minute_of, clock_minute, local_time}
use Rattle.desk_time.specs.Clocks.{last_shift, minute_of as shown_minute_of, clock_minute as shown_minute, local_time as shown_time}

last_same : (shifts : List (ℕ × ℤ)) (m : ℕ) → last_shift shifts m ≡ last_begun shifts m
last_same [] m = refl
last_same (s ∷ ss) m = ap (λ o. option_or o (cond (nat_le s.0 m) (Some s) None)) (last_same ss m)

minute_same : (z : ℤ) → shown_minute_of z ≡ minute_of z
minute_same (pos n) = refl
minute_same (negsuc n) = refl

clock_same : (shifts : List (ℕ × ℤ)) (m : ℕ) → shown_minute shifts m ≡ clock_minute shifts m
clock_same shifts m = minute_same (pos m +ℤ option_map_or (λ s. s.1) (last_shift shifts m) (pos 0)) ∙ ap (λ o. minute_of (pos m +ℤ option_map_or (λ s. s.1) o (pos 0))) (last_same shifts m)

pub local_times_agree : (shifts : List (ℕ × ℤ)) (m : ℕ) → ((shown_time shifts m).day ≡ (local_time shifts m).day) × ((shown_time shifts m).minute ≡ (local_time shifts m).minute)
local_times_agree shifts m = (ap (λ n. n / minutes_a_day) (clock_same shifts m), ap (λ n. n % minutes_a_day) (clock_same shifts m))
