-- Stretches that are lengthened: one more at the end, or the last one with a later end.
use Rattle.std.proofs.Common.{◌≡◌, ◌≢◌, ℕ, zero, suc, ◌+◌, ◌-◌, ◌<◌, ◌≤◌, true, false, ltb, cond, List, [], ◌∷◌, ◌++◌, length, get_or, set, refl, ap, sym, ◌∙◌, inl, inr, arith}
use Rattle.std.proofs.lemmas.Bool.{cases_lt, cases_eq}
use Rattle.std.proofs.lemmas.List.{get_or-set_same, get_or-set_other, length-set, get_or_append_left, get_or_push, length_push}
use Rattle.desk_spans.specs.declared.stretch.Stretch.{Stretch}
use Rattle.desk_spans.specs.Laid.{Fill, AreJoined, IsLaid, IsLengthened, value_in}
use Rattle.desk_spans.proofs.StretchLemmas.{Fill-le}

-- ---- one more at the end

Fill-push : (from : ℕ) (ss : List Stretch) (end : ℕ) (y : Stretch) → Fill from ss end → end < y.end → Fill from (ss ++ y ∷ []) y.end
Fill-push from [] end y h later = (omega arith, refl)
Fill-push from (s ∷ rest) end y h later = (h.0, Fill-push s.end rest end y h.1 later)

value_in-push_before : (from : ℕ) (ss : List Stretch) (end m : ℕ) (y : Stretch) → Fill from ss end → from ≤ m → m < end → value_in (ss ++ y ∷ []) m ≡ value_in ss m
value_in-push_before from [] end m y h low high = absurd (omega arith)
value_in-push_before from (s ∷ rest) end m y h low high =
    elim (cases_lt m s.end) [
      | inl here ↦ (let test : ltb m s.end ≡ true = grind arith in rw test refl)
      | inr behind ↦ ap (λ v. cond (ltb m s.end) s.value v) (value_in-push_before s.end rest end m y h.1 behind high)
    ]

value_in-push_level : (from : ℕ) (ss : List Stretch) (end m : ℕ) (y : Stretch) → Fill from ss end → end ≤ m → m < y.end → value_in (ss ++ y ∷ []) m ≡ y.value
value_in-push_level from [] end m y h low high =
    let test : ltb m y.end ≡ true = grind arith in rw test refl
value_in-push_level from (s ∷ rest) end m y h low high =
    let reached : s.end ≤ end = Fill-le s.end rest end h.1 in
    let test : ltb m s.end ≡ false = grind arith in
    rw test (value_in-push_level s.end rest end m y h.1 low high)

AreJoined-push : (ss : List Stretch) (y : Stretch) → AreJoined ss → ((d : Stretch) → 0 < length ss → (get_or ss (length ss - 1) d).value ≢ y.value) → AreJoined (ss ++ y ∷ [])
AreJoined-push ss y joined other k d in' =
    let count : length (ss ++ y ∷ []) ≡ length ss + 1 = length_push ss y in
    let first : get_or (ss ++ y ∷ []) k d ≡ get_or ss k d = get_or_append_left ss (y ∷ []) d k (omega arith) in
    elim (cases_lt (k + 1) (length ss)) [
      | inl inner ↦ rw (first, get_or_append_left ss (y ∷ []) d (k + 1) inner) (joined k d inner)
      | inr last ↦
          let place : length ss ≡ k + 1 = omega arith in
          let before : length ss - 1 ≡ k = omega arith in
          rw (first, get_or_push ss y d (k + 1) place) (rw before at (other d (omega arith)))
    ]

pub lengthened_push : (from : ℕ) (ss : List Stretch) (end : ℕ) (y : Stretch) → IsLaid from end ss → end < y.end → ((d : Stretch) → 0 < length ss → (get_or ss (length ss - 1) d).value ≢ y.value) → IsLengthened from end y.end y.value ss (ss ++ y ∷ [])
lengthened_push from ss end y laid later other = record {
  laid = record { fill = Fill-push from ss end y laid.fill later; joined = AreJoined-push ss y laid.joined other };
  before = λ m low high. value_in-push_before from ss end m y laid.fill low high;
  level = λ m low high. value_in-push_level from ss end m y laid.fill low high;
}

-- ---- the last one with a later end

Fill-set : (from : ℕ) (ss : List Stretch) (end i : ℕ) (y : Stretch) → suc i ≡ length ss → Fill from ss end → end < y.end → Fill from (set ss i y) y.end
Fill-set from [] end i y last h later = absurd (omega arith)
Fill-set from (s ∷ []) end zero y last h later = (omega (arith, h.0, h.1), refl)
Fill-set from (s ∷ t ∷ rest) end zero y last h later = absurd (omega arith)
Fill-set from (s ∷ rest) end (suc i) y last h later = (h.0, Fill-set s.end rest end i y (omega arith) h.1 later)

value_in-set_before : (from : ℕ) (ss : List Stretch) (end i m : ℕ) (y : Stretch) → suc i ≡ length ss → Fill from ss end → end < y.end → (get_or ss i y).value ≡ y.value → m < end → value_in (set ss i y) m ≡ value_in ss m
value_in-set_before from [] end i m y last h later same high = absurd (omega arith)
value_in-set_before from (s ∷ []) end zero m y last h later same high =
    let old : ltb m s.end ≡ true = let reached : s.end ≡ end = h.1 in grind arith in
    let new : ltb m y.end ≡ true = grind arith in
    rw (old, new) (sym same)
value_in-set_before from (s ∷ t ∷ rest) end zero m y last h later same high = absurd (omega arith)
value_in-set_before from (s ∷ rest) end (suc i) m y last h later same high =
    ap (λ v. cond (ltb m s.end) s.value v) (value_in-set_before s.end rest end i m y (omega arith) h.1 later same high)

value_in-set_level : (from : ℕ) (ss : List Stretch) (end i m : ℕ) (y : Stretch) → suc i ≡ length ss → Fill from ss end → end ≤ m → m < y.end → value_in (set ss i y) m ≡ y.value
value_in-set_level from [] end i m y last h low high = absurd (omega arith)
value_in-set_level from (s ∷ rest) end zero m y last h low high =
    let test : ltb m y.end ≡ true = grind arith in rw test refl
value_in-set_level from (s ∷ rest) end (suc i) m y last h low high =
    let reached : s.end ≤ end = Fill-le s.end rest end h.1 in
    let test : ltb m s.end ≡ false = grind arith in
    rw test (value_in-set_level s.end rest end i m y (omega arith) h.1 low high)

-- a write of an element with the same value leaves each value
value-set : (ss : List Stretch) (i k : ℕ) (y d : Stretch) → i < length ss → (get_or ss i d).value ≡ y.value → (get_or (set ss i y) k d).value ≡ (get_or ss k d).value
value-set ss i k y d there same =
    elim (cases_eq k i) [
      | inl here ↦ rw (here, get_or-set_same ss i y d there) (sym same)
      | inr other ↦ ap (λ (s : Stretch). s.value) (get_or-set_other ss i k y d other)
    ]

AreJoined-set : (ss : List Stretch) (i : ℕ) (y : Stretch) → i < length ss → ((d : Stretch) → (get_or ss i d).value ≡ y.value) → AreJoined ss → AreJoined (set ss i y)
AreJoined-set ss i y there same joined k d in' alike =
    joined k d (omega (arith, length-set ss i y))
    (sym (value-set ss i k y d there (same d)) ∙ alike ∙ value-set ss i (k + 1) y d there (same d))

pub lengthened_set : (from : ℕ) (ss : List Stretch) (end i : ℕ) (y : Stretch) → suc i ≡ length ss → IsLaid from end ss → end < y.end → ((d : Stretch) → (get_or ss i d).value ≡ y.value) → IsLengthened from end y.end y.value ss (set ss i y)
lengthened_set from ss end i y last laid later same = record {
  laid = record { fill = Fill-set from ss end i y last laid.fill later; joined = AreJoined-set ss i y (omega arith) same laid.joined };
  before = λ m low high. value_in-set_before from ss end i m y last laid.fill later (same y) high;
  level = λ m low high. value_in-set_level from ss end i m y last laid.fill low high;
}
