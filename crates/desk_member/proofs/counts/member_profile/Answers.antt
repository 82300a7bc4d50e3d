use Rattle.std.proofs.Common.{◌≤◌, ◌<◌, map, sym, ap, subst, ◌∙◌, arith}
use Rattle.desk_spans.specs.Timeline.{IsBounded}
use Rattle.desk_member.specs.Counts.{one_more}
use Rattle.desk_member.proofs.CountLemmas.{profile_sum, bounded}
use Rattle.desk_member.proofs.counts.member_profile.Goals as goal

pub build-requires-clause-bounds : goal.build-requires-clause-bounds
build-requires-clause-bounds c = λ m l h.
    let low : c.args.window.from ≤ m = omega (arith, c.get-from.ensures.value) in
    let high : m < c.args.window.to = omega (arith, c.get-to.ensures.value) in
    subst IsBounded (sym (profile_sum c.args.tables.now c.args.group m c.in_ok-spans.spans c.as_slice-2.result.now (c.as_slice-2.ensures ∙ c.in_ok-pieces.ensures ∙ ap (map one_more) c.as_slice.ensures) (c.in_ok-spans.ensures.members m low high)))
    (bounded c.args.tables.now c.args.group m c.requires.well_formed)

pub returns-in-Ok-clause-counts : goal.returns-in-Ok-clause-counts
returns-in-Ok-clause-counts c = λ m l h.
    c.in-Ok.ensures.sums m (omega (arith, c.get-from.ensures.value)) (omega (arith, c.get-to.ensures.value))
    ∙ profile_sum c.args.tables.now c.args.group m c.in_ok-spans.spans c.as_slice-2.result.now (c.as_slice-2.ensures ∙ c.in_ok-pieces.ensures ∙ ap (map one_more) c.as_slice.ensures) (c.in_ok-spans.ensures.members m l h)
