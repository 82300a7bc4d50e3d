-- The shifts of a zone.
use Rattle.std.specs.Prelude.{ℕ, ℤ, pos, neg_ℤ, int_le, Bool, true, false, ◌&&◌, ◌==◌, nat_le, nat_lt, List, [], ◌∷◌, map, length}
use Rattle.std.specs.List.{list_all}
use Rattle.desk_time.specs.Limits.{first_minute, end_of_minutes, minutes_a_day, shift_limit}

-- each number is above all before it
abbrev pub are_rising : List ℕ → Bool
are_rising [] = true
are_rising (x ∷ xs) = list_all (λ y. nat_lt x y) xs && are_rising xs

-- the first shift begins at m
abbrev pub begins_at : ℕ → List (ℕ × ℤ) → Bool
begins_at m [] = false
begins_at m (s ∷ ss) = s.0 == m

-- the shifts of a zone begin with the horizon, rise in it, and shift by a day at most
abbrev pub are_shifts : List (ℕ × ℤ) → Bool
are_shifts ss =
    nat_le (length ss) shift_limit && begins_at first_minute ss && are_rising (map (λ s. s.0) ss)
    && list_all (λ s. nat_le s.0 end_of_minutes && int_le (neg_ℤ (pos minutes_a_day)) s.1 && int_le s.1 (pos minutes_a_day)) ss
