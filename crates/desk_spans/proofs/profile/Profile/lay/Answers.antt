use Rattle.std.proofs.Common.{◌≡◌, ◌<◌, ◌≤◌, sym, ◌∙◌, arith, w64}
use Rattle.std.proofs.lemmas.Int.{to_z-of_z}
use Rattle.desk_spans.specs.Laid.{IsLengthened}
use Rattle.desk_spans.specs.Timeline.{end_of}
use Rattle.desk_spans.proofs.StretchLemmas.{Fill-le}
use Rattle.desk_spans.proofs.TimelineLemmas.{end_of-timeline, value_at-timeline}
use Rattle.desk_spans.proofs.profile.Profile.lay.Goals as goal

window_end : (c : goal.After-self-1) → c.self.inside.to ≡ end_of c.args.self.now
window_end c = rw (← c.self.view_is) (sym (end_of-timeline _ _ _ (Fill-le _ _ _ c.self.invariant.fill)))

lengthened : (c : goal.After-self-1) → IsLengthened c.self.inside.from c.self.inside.to c.args.to c.args.value c.self.inside.stretches.items c.lengthen.new.stretches.items
lengthened c =
    rw (to_z-of_z w64 _ c.ranges.value) at (c.in_ok-lengthen.ensures.ok _ _ c.self.invariant (omega (arith, window_end c)))

pub invariant_of-self-2 : goal.invariant_of-self-2
invariant_of-self-2 c = (lengthened c).laid

pub returns-clause-end : goal.returns-clause-end
returns-clause-end c = end_of-timeline _ _ _ (Fill-le _ _ _ (lengthened c).laid.fill)

pub returns-clause-before : goal.returns-clause-before
returns-clause-before c m from end =
    let low : c.self.inside.from ≤ m = rw (← c.self.view_is) at from in
    let high : m < c.self.inside.to = rw (window_end c) end in
    rw (← c.self.view_is)
    (value_at-timeline _ _ _ m low (omega (arith, window_end c, c.requires, high)) ∙ (lengthened c).before m low high ∙ sym (value_at-timeline _ _ _ m low high))

pub returns-clause-level : goal.returns-clause-level
returns-clause-level c m end to =
    let low : c.self.inside.to ≤ m = rw (window_end c) end in
    value_at-timeline _ _ _ m (omega (arith, Fill-le _ _ _ c.self.invariant.fill, low)) to ∙ (lengthened c).level m low to
