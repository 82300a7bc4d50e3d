-- A walk along stretches, from the one that holds the first minute of a range on.
use Rattle.std.proofs.Common.{◌≡◌, ◌≢◌, ℕ, ◌+◌, ◌-◌, min, ◌<◌, ◌≤◌, List, [], ◌∷◌, length, get_or, drop, true, false, ltb, pos, ◌+ℤ◌, ◌*ℤ◌, arith, ap, sym, subst, ◌∙◌, inl, inr}
use Rattle.std.proofs.lemmas.List.{drop_more, drop_all}
use Rattle.std.proofs.lemmas.Bool.{cases_lt}
use Rattle.desk_spans.specs.declared.stretch.Stretch.{Stretch}
use Rattle.desk_spans.specs.Minutes.{EachMinute}
use Rattle.desk_spans.specs.Timeline.{Timeline, end_of, value_at, sum_on}
use Rattle.desk_spans.specs.Laid.{Fill, AreJoined, timeline, value_in}
use Rattle.desk_spans.proofs.StretchLemmas.{Fill-le}
use Rattle.desk_spans.proofs.TimelineLemmas.{sum_on_level, end_of-timeline, value_at-timeline}

-- the stretches that are left fill the window from `start` on, and mean its values
pub record Walks (t : Timeline) (from start : ℕ) (left : List Stretch) : Type 0 where
  pub begun : from ≤ start
  pub fill : Fill start left (end_of t)
  pub values : EachMinute start (end_of t) (λ m. value_in left m ≡ value_at t m)

-- the stretch at a place, as code reads it
abbrev pub stretch_at : List Stretch → ℕ → Stretch
stretch_at ss i = get_or ss i (record { end = 0; value = pos 0 })

-- what is left begins with the stretch at hand
at_hand : (ss : List Stretch) (i : ℕ) → i < length ss → drop i ss ≡ stretch_at ss i ∷ drop (i + 1) ss
at_hand ss i there = drop_more ss i (record { end = 0; value = pos 0 }) there

-- its value is that of its minutes
pub walk_value : (t : Timeline) (from start : ℕ) (ss : List Stretch) (i : ℕ) → i < length ss → Walks t from start (drop i ss) → EachMinute start (stretch_at ss i).end (λ m. value_at t m ≡ (stretch_at ss i).value)
walk_value t from start ss i there w m low high =
    let fill = rw (at_hand ss i there) at w.fill in
    let below : m < end_of t = omega (arith, Fill-le _ _ _ fill.1) in
    let value = rw (at_hand ss i there) at (w.values m low below) in
    let here : ltb m (stretch_at ss i).end ≡ true = grind arith in
    sym (rw here at value)

-- behind it the walk goes on
pub walk_on : (t : Timeline) (from start : ℕ) (ss : List Stretch) (i : ℕ) → i < length ss → Walks t from start (drop i ss) → Walks t from (stretch_at ss i).end (drop (i + 1) ss)
walk_on t from start ss i there w =
    let fill = rw (at_hand ss i there) at w.fill in
    record {
      begun = omega (arith, w.begun, fill.0);
      fill = fill.1;
      values = λ m low high.
          let value = rw (at_hand ss i there) at (w.values m (omega (arith, fill.0)) high) in
          let behind : ltb m (stretch_at ss i).end ≡ false = grind arith in
          rw behind at value;
    }

-- it is not empty, and ends inside the window
pub walk_end : (t : Timeline) (from start : ℕ) (ss : List Stretch) (i : ℕ) → i < length ss → Walks t from start (drop i ss) → (start < (stretch_at ss i).end) × ((stretch_at ss i).end ≤ end_of t)
walk_end t from start ss i there w =
    let fill = rw (at_hand ss i there) at w.fill in
    (fill.0, Fill-le _ _ _ fill.1)

-- what it adds to the sum of a range that does not end before it
pub walk_sum : (t : Timeline) (from start : ℕ) (ss : List Stretch) (i to : ℕ) → i < length ss → Walks t from start (drop i ss) → t.from ≤ from → start < to → to ≤ end_of t → sum_on t from (min (stretch_at ss i).end to) ≡ sum_on t from start +ℤ pos (min (stretch_at ss i).end to - start) *ℤ (stretch_at ss i).value
walk_sum t from start ss i to there w low reached high =
    let end = walk_end t from start ss i there w in
    let last : ℕ = min (stretch_at ss i).end to in
    let whole : start + (last - start) ≡ last = omega arith in
    let level = sum_on_level t from start (last - start) (stretch_at ss i).value low w.begun (omega arith)
    (λ m above below. walk_value t from start ss i there w m above (omega arith)) in
    sym (ap (sum_on t from) whole) ∙ level

-- where no stretch is left, the walk has reached the end of the window
pub walk_done : (t : Timeline) (from start : ℕ) (ss : List Stretch) (i : ℕ) → length ss ≤ i → Walks t from start (drop i ss) → start ≡ end_of t
walk_done t from start ss i out w = rw (drop_all i ss out) at w.fill

-- what is not filled to its end has a first stretch
pub first_there : (from : ℕ) (ss : List Stretch) (to : ℕ) → Fill from ss to → from < to → 0 < length ss
first_there from [] to fill h = absurd (omega arith)
first_there from (s ∷ rest) to fill h = omega arith

-- and a stretch that ends below the end of the window has a next one
next_there : (t : Timeline) (from start : ℕ) (ss : List Stretch) (i : ℕ) → i < length ss → Walks t from start (drop i ss) → (stretch_at ss i).end < end_of t → i + 1 < length ss
next_there t from start ss i there w inside =
    elim (cases_lt (i + 1) (length ss)) [
      | inl more ↦ more
      | inr out ↦ absurd (omega (arith, walk_done t from (stretch_at ss i).end ss (i + 1) out (walk_on t from start ss i there w)))
    ]

-- where the first stretch ends, the value is another
pub walk_changes : (t : Timeline) (from start : ℕ) (ss : List Stretch) → 0 < length ss → AreJoined ss → Walks t from start ss → (stretch_at ss 0).end < end_of t → value_at t (stretch_at ss 0).end ≢ (stretch_at ss 0).value
walk_changes t from start ss there joined w inside same =
    let next = next_there t from start ss 0 there w inside in
    let on = walk_on t from start ss 0 there w in
    let end = walk_end t from _ ss 1 next on in
    joined 0 (record { end = 0; value = pos 0 }) next (sym same ∙ walk_value t from _ ss 1 next on _ (omega arith) end.0)

-- ---- a walk along two profiles at once

-- the stretches of a profile are walked from its first minute on
pub walk_begins : (t : Timeline) (from to : ℕ) (ss : List Stretch) → timeline from to ss ≡ t → Fill from ss to → Walks t t.from t.from ss
walk_begins t from to ss is fill =
    let ends : end_of (timeline from to ss) ≡ to = end_of-timeline from to ss (Fill-le from ss to fill) in
    let walks : Walks (timeline from to ss) from from ss = record {
      begun = omega arith;
      fill = rw ends fill;
      values = λ m low high. sym (value_at-timeline from to ss m low (rw ends at high));
    } in
    subst (λ (u : Timeline). Walks u u.from u.from ss) is walks
