use Rattle.std.proofs.Common.{rules, ◌≡◌, ◌<◌, ◌≤◌, true, false, leb, ◌∙◌, sym, arith}
use Rattle.std.specs.List.Sorted.{IsPartitionPoint}
use Rattle.std.proofs.lemmas.List.{take_rest}
use Rattle.std.proofs.lemmas.List.Sorted.{IsPartitionPoint-from_clause}
use Rattle.desk_spans.specs.Timeline.{end_of}
use Rattle.desk_spans.proofs.StretchLemmas.{Fill-partitioned, Fill-drop, value_in-drop, Fill-le}
use Rattle.desk_spans.proofs.TimelineLemmas.{end_of-timeline, value_at-timeline}
use Rattle.desk_spans.proofs.profile.Profile.stretches_from.Goals as goal

-- the stretches before the point end at or before the minute, and the others above it
point : (c : goal.After-result-1) → IsPartitionPoint (λ s. leb s.end c.args.minute ≡ true) (λ s. leb s.end c.args.minute ≡ false) c.deref.result.now c.partition_point-first.result
point c =
    let parted = Fill-partitioned _ _ _ c.args.minute c.self.invariant.fill in
    IsPartitionPoint-from_clause (λ s. leb s.end c.args.minute) _ _ c.partition_point-first.ensures.partitioned (rw c.deref.ensures.value parted) (λ a r q k. search rules)

window_end : (c : goal.After-result-1) → c.self.inside.to ≡ end_of c.args.self.now
window_end c = rw (← c.self.view_is) (sym (end_of-timeline _ _ _ (Fill-le _ _ _ c.self.invariant.fill)))

low : (c : goal.After-result-1) → c.self.inside.from ≤ c.args.minute
low c = rw (← c.self.view_is) at c.requires.from

high : (c : goal.After-result-1) → c.args.minute < c.self.inside.to
high c = rw (window_end c) c.requires.to

pub returns-clause-fill : goal.returns-clause-fill
returns-clause-fill c =
    let at_point = rw c.deref.ensures.value at (point c) in
    rw (take_rest, c.deref-2.ensures.value, ← window_end c)
    (Fill-drop c.self.inside.from _ _ _ _ c.self.invariant.fill (low c) (high c) at_point.0 at_point.1)

pub returns-clause-values : goal.returns-clause-values
returns-clause-values c m from to =
    let at_point = rw c.deref.ensures.value at (point c) in
    let below : m < c.self.inside.to = rw (window_end c) to in
    rw (take_rest, c.deref-2.ensures.value, ← c.self.view_is)
    (value_in-drop _ c.args.minute m _ from at_point.0 ∙ sym (value_at-timeline _ _ _ m (omega (arith, low c)) below))
