-- How stretches that fill a window are found, cut and lengthened.
use Rattle.std.proofs.Common.{◌≡◌, ℕ, zero, suc, ◌<◌, ◌≤◌, true, false, leb, ltb, List, [], ◌∷◌, length, drop, refl, add-one, arith}
use Rattle.std.specs.List.{AllAdjacentBelow, AllWithin}
use Rattle.std.specs.List.Sorted.{IsPartitionedBy}
use Rattle.std.proofs.lemmas.List.Sorted.{IsNonDecreasingBy-from_all_adjacent, IsPartitionedBy-leb}
use Rattle.desk_spans.specs.declared.stretch.Stretch.{Stretch}
use Rattle.desk_spans.specs.Laid.{Fill, value_in}

pub Fill-le : (from : ℕ) (ss : List Stretch) (to : ℕ) → Fill from ss to → from ≤ to
Fill-le from [] to h = omega arith
Fill-le from (s ∷ rest) to h = omega (arith, h.0, Fill-le s.end rest to h.1)

-- the ends rise
Fill-adjacent : (from : ℕ) (ss : List Stretch) (to : ℕ) → Fill from ss to → AllAdjacentBelow (λ s t. s.end ≤ t.end) ss (length ss)
Fill-adjacent from [] to h k d in' = absurd (omega arith)
Fill-adjacent from (s ∷ []) to h k d in' = absurd (omega arith)
Fill-adjacent from (s ∷ t ∷ rest) to h zero d in' = omega (arith, h.1.0)
Fill-adjacent from (s ∷ t ∷ rest) to h (suc k) d in' =
    let tail = Fill-adjacent s.end (t ∷ rest) to h.1 k d (omega arith) in
    rw add-one (simp add-one at tail)

-- so the stretches that end at or before a minute come first
pub Fill-partitioned : (from : ℕ) (ss : List Stretch) (to minute : ℕ) → Fill from ss to → IsPartitionedBy (λ s. leb s.end minute) ss
Fill-partitioned from ss to minute h =
    IsPartitionedBy-leb (λ s. s.end) ss minute (IsNonDecreasingBy-from_all_adjacent (λ s. s.end) ss (Fill-adjacent from ss to h))

-- without the stretches that end at or before a minute, the others fill what begins there
pub Fill-drop : (from : ℕ) (ss : List Stretch) (to minute i : ℕ) → Fill from ss to → from ≤ minute → minute < to → AllWithin (λ s. leb s.end minute ≡ true) ss 0 i → AllWithin (λ s. leb s.end minute ≡ false) ss i (length ss) → Fill minute (drop i ss) to
Fill-drop from [] to minute zero h low high past ahead = absurd (omega arith)
Fill-drop from [] to minute (suc i) h low high past ahead = absurd (omega arith)
Fill-drop from (s ∷ rest) to minute zero h low high past ahead =
    let here : leb s.end minute ≡ false = ahead 0 s (omega arith) (omega arith) in (grind arith, h.1)
Fill-drop from (s ∷ rest) to minute (suc i) h low high past ahead =
    let here : leb s.end minute ≡ true = past 0 s (omega arith) (omega arith) in
    Fill-drop s.end rest to minute i h.1 (grind arith) high
    (λ k d l u. past (suc k) d (omega arith) (omega arith))
    (λ k d l u. ahead (suc k) d (omega arith) (omega arith))

-- and the values from there on are the same
pub value_in-drop : (ss : List Stretch) (minute m i : ℕ) → minute ≤ m → AllWithin (λ s. leb s.end minute ≡ true) ss 0 i → value_in (drop i ss) m ≡ value_in ss m
value_in-drop ss minute m zero low past = refl
value_in-drop [] minute m (suc i) low past = refl
value_in-drop (s ∷ rest) minute m (suc i) low past =
    let here : leb s.end minute ≡ true = past 0 s (omega arith) (omega arith) in
    let later : value_in (drop i rest) m ≡ value_in rest m = value_in-drop rest minute m i low (λ k d l u. past (suc k) d (omega arith) (omega arith)) in
    let behind : ltb m s.end ≡ false = grind arith in
    rw behind later
