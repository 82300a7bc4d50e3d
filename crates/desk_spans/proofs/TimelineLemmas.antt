-- What a timeline of stretches shows: its end, and its value at a minute.
use Rattle.std.proofs.Common.{◌≡◌, ℕ, ◌+◌, ◌-◌, ◌<◌, ◌≤◌, List, length, get_or, ℤ, pos, arith, ◌∙◌, ap, zero, suc, take, drop, fold, ◌+ℤ◌, ◌*ℤ◌, length-drop}
use Rattle.std.proofs.lemmas.List.FromFn.{length-map-range_with_len, get_or-map-range_with_len}
use Rattle.std.proofs.lemmas.Int.{ints}
use Rattle.std.proofs.lemmas.List.{get_or-drop}
use Rattle.std.proofs.lemmas.List.Sums.{fold_more}
use Rattle.desk_spans.specs.declared.stretch.Stretch.{Stretch}
use Rattle.desk_spans.specs.Timeline.{Timeline, end_of, value_at, sum_on}
use Rattle.desk_spans.specs.Minutes.{EachMinute}
use Rattle.desk_spans.specs.Laid.{timeline, value_in}

pub length-timeline : (from to : ℕ) (ss : List Stretch) → length (timeline from to ss).values ≡ to - from
length-timeline from to ss = length-map-range_with_len (value_in ss) from (to - from)

pub end_of-timeline : (from to : ℕ) (ss : List Stretch) → from ≤ to → end_of (timeline from to ss) ≡ to
end_of-timeline from to ss h = omega (arith, length-timeline from to ss)

pub value_at-timeline : (from to : ℕ) (ss : List Stretch) (m : ℕ) → from ≤ m → m < to → value_at (timeline from to ss) m ≡ value_in ss m
value_at-timeline from to ss m low high =
    get_or-map-range_with_len (value_in ss) from (to - from) (m - from) m (pos 0) (omega arith) (omega arith)

-- the sum of a range with one minute more
pub sum_on_more : (t : Timeline) (from m : ℕ) → t.from ≤ from → from ≤ m → m < end_of t → sum_on t from (m + 1) ≡ sum_on t from m +ℤ value_at t m
sum_on_more t from m low reached inside =
    let skipped : ℕ = from - t.from in
    let taken : ℕ = (m - t.from) - (from - t.from) in
    let more : (m + 1 - t.from) - (from - t.from) ≡ taken + 1 = omega arith in
    let place : skipped + taken ≡ m - t.from = omega arith in
    let there : taken < length (drop skipped t.values) = omega (arith, length-drop skipped t.values) in
    let last : get_or (drop skipped t.values) taken (pos 0) ≡ value_at t m = get_or-drop skipped t.values taken (pos 0) ∙ ap (λ k. get_or t.values k (pos 0)) place in
    ap (λ n. fold ◌+ℤ◌ (pos 0) (take n (drop skipped t.values))) more ∙ fold_more ◌+ℤ◌ (pos 0) (drop skipped t.values) taken (pos 0) there ∙ ap (λ v. sum_on t from m +ℤ v) last

-- and with so many minutes more that have one value
pub sum_on_level : (t : Timeline) (from m n : ℕ) (v : ℤ) → t.from ≤ from → from ≤ m → m + n ≤ end_of t → EachMinute m (m + n) (λ k. value_at t k ≡ v) → sum_on t from (m + n) ≡ sum_on t from m +ℤ pos n *ℤ v
sum_on_level t from m zero v low reached inside level =
    let here : m + 0 ≡ m = omega arith in
    rw here (omega (arith, ints))
sum_on_level t from m (suc n) v low reached inside level =
    let before = sum_on_level t from m n v low reached (omega arith) (λ k above below. level k above (omega arith)) in
    let last : value_at t (m + n) ≡ v = level (m + n) (omega arith) (omega arith) in
    let one = sum_on_more t from (m + n) low (omega arith) (omega arith) in
    let place : m + suc n ≡ (m + n) + 1 = omega arith in
    rw place (omega (arith, ints, one, before, last))
