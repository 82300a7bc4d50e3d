-- What the rule of shifts gives at each of them, and which is the last that has begun.
use Rattle.std.proofs.Common.{◌≡◌, ℕ, zero, suc, ◌-◌, ◌<◌, ◌≤◌, Bool, true, false, ◌&&◌, nat_le, nat_lt, int_le, inl, inr, eqb-true, slice_get, ℤ, pos, neg_ℤ, List, [], ◌∷◌, length, get_or, map, Some, None, refl, sym, ap, ◌∙◌, arith}
use Rattle.std.specs.List.{list_all}
use Rattle.std.specs.Option.{option_map_or}
use Rattle.std.specs.List.Sorted.{IsNonDecreasingBy, IsPartitionPoint}
use Rattle.std.proofs.lemmas.Bool.{and_parts, leb-true, leb-false, le-leb, lt-leb, ltb-true, cases_lt}
use Rattle.std.proofs.lemmas.Option.{slice_get-get_or}
use Rattle.std.proofs.lemmas.List.Folds.{list_all-map}
use Rattle.std.proofs.lemmas.List.Sums.{AllPass-from_list_all}
use Rattle.jiff_core.specs.Calendar.{IsWithin}
use Rattle.jiff_core.proofs.SignedLemmas.{signed_arith}
use Rattle.desk_time.specs.Limits.{first_minute, end_of_minutes, minutes_a_day}
use Rattle.desk_time.specs.Clocks.{last_shift, offset_at}
use Rattle.desk_time.specs.Zones.{are_rising, begins_at, are_shifts}

-- ---- rising

rising_at : (ss : List (ℕ × ℤ)) → are_rising (map (λ s. s.0) ss) ≡ true → (i j : ℕ) (d : ℕ × ℤ) → i < j → j < length ss → (get_or ss i d).0 < (get_or ss j d).0
rising_at [] r i j d h k = absurd (omega arith)
rising_at (s ∷ ss) r i zero d h k = absurd (omega arith)
rising_at (s ∷ ss) r zero (suc j) d h k =
    let above = sym (list_all-map (λ y. nat_lt s.0 y) (λ x. x.0) ss) ∙ (and_parts _ _ r).0 in
    ltb-true s.0 (get_or ss j d).0 (AllPass-from_list_all (λ x. nat_lt s.0 x.0) ss above j d (omega arith))
rising_at (s ∷ ss) r (suc i) (suc j) d h k = rising_at ss (and_parts _ _ r).1 i j d (omega arith) (omega arith)

-- ---- the last shift that has begun

none_begun : (ss : List (ℕ × ℤ)) (m : ℕ) (d : ℕ × ℤ) → ((j : ℕ) → j < length ss → m < (get_or ss j d).0) → last_shift ss m ≡ None
none_begun [] m d h = refl
none_begun (s ∷ ss) m d h = rw (none_begun ss m d (λ j l. h (suc j) (omega arith)), lt-leb s.0 m (h 0 (omega arith))) refl

last_shift-is : (ss : List (ℕ × ℤ)) (m k : ℕ) (d : ℕ × ℤ) → k < length ss → (get_or ss k d).0 ≤ m → ((j : ℕ) → k < j → j < length ss → m < (get_or ss j d).0) → last_shift ss m ≡ Some (get_or ss k d)
last_shift-is [] m k d h here later = absurd (omega arith)
last_shift-is (s ∷ ss) m zero d h here later = rw (none_begun ss m d (λ j l. later (suc j) (omega arith) (omega arith)), le-leb s.0 m here) refl
last_shift-is (s ∷ ss) m (suc k) d h here later = rw (last_shift-is ss m k d (omega arith) here (λ j l within. later (suc j) (omega arith) (omega arith))) refl

-- the offset of the shift that has begun last
pub offset_at-is : (ss : List (ℕ × ℤ)) (m k : ℕ) (d : ℕ × ℤ) → k < length ss → last_shift ss m ≡ slice_get ss k → offset_at ss m ≡ (get_or ss k d).1
offset_at-is ss m k d h e = ap (λ s. option_map_or (λ x. x.1) s (pos 0)) (e ∙ slice_get-get_or ss k d h)

-- ---- the rule

-- the first shift begins with the horizon
first_shift : (ss : List (ℕ × ℤ)) (d : ℕ × ℤ) → begins_at first_minute ss ≡ true → (0 < length ss) × ((get_or ss 0 d).0 ≡ first_minute)
first_shift [] d e = absurd (cc)
first_shift (s ∷ ss) d e = (omega arith, eqb-true s.0 first_minute e)

-- the part of the rule that each shift keeps by itself
abbrev is_shift : ℕ × ℤ → Bool
is_shift s = nat_le s.0 end_of_minutes && int_le (neg_ℤ (pos minutes_a_day)) s.1 && int_le s.1 (pos minutes_a_day)

within_by_tests : (b : Bool) (z : ℤ) → (b && int_le (neg_ℤ (pos minutes_a_day)) z && int_le z (pos minutes_a_day)) ≡ true → IsWithin minutes_a_day z
within_by_tests b z e =
    let tests = and_parts (b && int_le (neg_ℤ (pos minutes_a_day)) z) (int_le z (pos minutes_a_day)) e in
    let low = and_parts b (int_le (neg_ℤ (pos minutes_a_day)) z) tests.0 in
    (omega (arith, signed_arith, low.1), omega (arith, signed_arith, tests.1))

module _ (ss : List (ℕ × ℤ)) (zone : are_shifts ss ≡ true) where
  all_in : list_all is_shift ss ≡ true
  all_in = (and_parts _ _ zone).1

  rising : are_rising (map (λ s. s.0) ss) ≡ true
  rising = (and_parts _ _ (and_parts _ _ zone).0).1

  first : begins_at first_minute ss ≡ true
  first = (and_parts _ _ (and_parts _ _ (and_parts _ _ zone).0).0).1

  -- the shifts begin one after the other
  pub shifts_rise : IsNonDecreasingBy (λ s. s.0) ss
  shifts_rise i j d h k = elim (cases_lt i j) [
    | inl lt ↦ omega (arith, rising_at ss rising i j d lt k)
    | inr ge ↦ let same : i ≡ j = omega arith in rw same (omega arith)
  ]

  -- an offset is a day at most
  pub offset_within : (k : ℕ) (d : ℕ × ℤ) → k < length ss → IsWithin minutes_a_day (get_or ss k d).1
  offset_within k d h = within_by_tests (nat_le (get_or ss k d).0 end_of_minutes) (get_or ss k d).1 (AllPass-from_list_all is_shift ss all_in k d h)

  module _ (m : ℕ) (since : first_minute ≤ m) (k : ℕ) (within : k ≤ length ss) (point : IsPartitionPoint (λ s. nat_le s.0 m ≡ true) (λ s. nat_le s.0 m ≡ false) ss k) where
    -- one shift at least has begun
    pub some_begun : 1 ≤ k
    some_begun =
        let begins = first_shift ss (0, pos 0) first in
        elim (cases_lt 0 k) [
          | inl lt ↦ omega arith
          | inr ge ↦ absurd (omega (arith, begins.1, leb-false (get_or ss 0 (0, pos 0)).0 m (point.1 0 (0, pos 0) ge begins.0)))
        ]

    -- and the last of them is the last of the list that has begun
    pub last_shift-begun : last_shift ss m ≡ slice_get ss (k - 1)
    last_shift-begun =
        let d : ℕ × ℤ = (0, pos 0) in
        let is = last_shift-is ss m (k - 1) d (omega (arith, some_begun)) (leb-true (get_or ss (k - 1) d).0 m (point.0 (k - 1) d (omega arith) (omega (arith, some_begun))))
        (λ j l h. leb-false (get_or ss j d).0 m (point.1 j d (omega arith) h)) in
        is ∙ sym (slice_get-get_or ss (k - 1) d (omega (arith, some_begun)))
