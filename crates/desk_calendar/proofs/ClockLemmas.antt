-- Clocks: the shift that has begun, and how clocks go on up to the next.
use Rattle.std.proofs.Common.{◌≡◌, ℕ, suc, take, length, ◌+◌, ◌-◌, ◌/◌, ◌%◌, ◌<◌, ◌≤◌, Bool, true, false, cond, nat_le, ltb, ℤ, pos, negsuc, ◌+ℤ◌, List, [], ◌∷◌, Option, Some, None, ◌⊎◌, inl, inr, refl, ap, ◌∙◌, arith}
use Rattle.std.proofs.lemmas.Bool.Decides.{nat_tests}
use Rattle.std.specs.Prelude.{fold}
use Rattle.std.specs.List.{AllByRecursion}
use Rattle.std.specs.Option.{option_map_or, option_or}
use Rattle.desk_base.specs.rules.Limits.{minutes_a_day}
use Rattle.desk_base.specs.meaning.Time.{minute_of, last_begun, offset_at, clock_minute}
use Rattle.desk_base.specs.rows.Ranges.{nearer}
use Rattle.desk_calendar.specs.Clocks.{GoesOn}
use Rattle.desk_base.proofs.lists.Bounds.{take_whole, nearer_after, nearer_below, nearer_at}

-- the offset of the last shift that has begun, from the first on
abbrev pub last_offset : ℕ → ℤ → List (ℕ × ℤ) → ℤ
last_offset m o shifts = fold (λ o s. cond (nat_le s.0 m) s.1 o) o shifts

-- the next shift
abbrev pub next_shift : ℕ → ℕ → List (ℕ × ℤ) → ℕ
next_shift m n shifts = fold (λ n s. nearer m n s.0) n shifts

pub last_is : (xs : List (ℕ × ℤ)) (m : ℕ) (o : ℤ) → last_offset m o xs ≡ option_map_or (λ s. s.1) (last_begun xs m) o
last_is [] m o = refl
last_is (s ∷ ss) m o = last_is ss m (cond (nat_le s.0 m) s.1 o) ∙ step (last_begun ss m) (nat_le s.0 m)
  where
    step : (l : Option (ℕ × ℤ)) (b : Bool) → option_map_or (λ s. s.1) l (cond b s.1 o) ≡ option_map_or (λ s. s.1) (option_or l (cond b (Some s) None)) o
    step None true = refl
    step None false = refl
    step (Some x) b = refl

pub next_below : (m n : ℕ) (xs : List (ℕ × ℤ)) → next_shift m n xs ≤ n
next_below m n [] = omega arith
next_below m n (s ∷ ss) = omega (arith, next_below m (nearer m n s.0) ss, nearer_below m n s.0)

pub next_after : (m n : ℕ) (xs : List (ℕ × ℤ)) → m < n → m < next_shift m n xs
next_after m n [] h = h
next_after m n (s ∷ ss) h = next_after m (nearer m n s.0) ss (nearer_after m n s.0 h)

next_each : (m n : ℕ) (xs : List (ℕ × ℤ)) → AllByRecursion (λ s. m < s.0 → next_shift m n xs ≤ s.0) xs
next_each m n [] = tt
next_each m n (s ∷ ss) = ((λ h. omega (arith, next_below m (nearer m n s.0) ss, nearer_at m n s.0 h)), next_each m (nearer m n s.0) ss)

shifts_still : (shifts : List (ℕ × ℤ)) (m k n : ℕ) → m ≤ k → k < n → AllByRecursion (λ s. m < s.0 → n ≤ s.0) shifts → last_begun shifts k ≡ last_begun shifts m
shifts_still [] m k n h b a = refl
shifts_still (s ∷ ss) m k n h b a =
    ap (λ o. option_or o (cond (nat_le s.0 k) (Some s) None)) (shifts_still ss m k n h b a.1)
    ∙ ap (λ b. option_or (last_begun ss m) (cond b (Some s) None)) (begun (le_or s.0 m))
  where
    le_or : (a b : ℕ) → (a ≤ b) ⊎ (b < a)
    le_or a b = grind arith

    begun : (s.0 ≤ m) ⊎ (m < s.0) → nat_le s.0 k ≡ nat_le s.0 m
    begun (inl l) = let i : s.0 ≤ k = omega arith in grind (arith, nat_tests)
    begun (inr l) = let j : n ≤ s.0 = a.0 l in let i : k < s.0 = omega arith in grind (arith, nat_tests)

minute_below : (n b : ℕ) (test : Bool) → ltb n (suc b) ≡ test → minute_of (cond test (negsuc (suc b - suc n)) (pos (n - suc b))) ≡ n - suc b
minute_below n b true e = let l : n < suc b = grind (arith, nat_tests) in omega arith
minute_below n b false e = refl

-- a clock goes on by no more than the time that passes
clock-more : (by : ℤ) (m k : ℕ) → m ≤ k → (e : ℕ) × (e ≤ k - m) × (minute_of (pos k +ℤ by) ≡ minute_of (pos m +ℤ by) + e)
clock-more (pos o) m k h = (k - m, omega arith, omega arith)
clock-more (negsuc b) m k h =
    let at_k = minute_below k b (ltb k (suc b)) refl in
    let at_m = minute_below m b (ltb m (suc b)) refl in
    ((k - suc b) - (m - suc b), omega arith, at_k ∙ omega (arith, at_m))

pub goes_on : (shifts : List (ℕ × ℤ)) (m n : ℕ) → GoesOn shifts m (next_shift m n shifts)
goes_on shifts m n = record {
  on = λ k h b.
      let c = clock-more (offset_at shifts m) m k h in
      (c.0, c.1, ap (λ o. minute_of (pos k +ℤ option_map_or (λ s. s.1) o (pos 0))) (shifts_still shifts m k (next_shift m n shifts) h b (next_each m n shifts)) ∙ c.2);
}

pub same_day : (c e : ℕ) → c % minutes_a_day + e < minutes_a_day → ((c + e) / minutes_a_day ≡ c / minutes_a_day) × ((c + e) % minutes_a_day ≡ c % minutes_a_day + e)
same_day c e h = (omega arith, omega arith)

-- after the walk over all shifts
pub offset_all : (m i : ℕ) (o : ℤ) (xs : List (ℕ × ℤ)) → o ≡ last_offset m (pos 0) (take i xs) → length xs ≤ i → minute_of (pos m +ℤ o) ≡ clock_minute xs m
offset_all m i o xs e l = ap (λ o. minute_of (pos m +ℤ o)) (e ∙ ap (last_offset m (pos 0)) (take_whole xs i l) ∙ last_is xs m (pos 0))
