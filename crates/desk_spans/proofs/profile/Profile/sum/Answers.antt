use Rattle.std.proofs.Common.{◌≡◌, min, arith, FitsSigned, w64, rules}
use Rattle.std.proofs.lemmas.Int.{ints, to_z-of_z}
use Rattle.desk_spans.proofs.Walks.{stretch_at, walk_sum, walk_on, walk_end}
use Rattle.desk_spans.proofs.profile.Profile.sum.Goals as goal

pub overflow_add-total : goal.overflow_add-total
overflow_add-total c =
    let end = walk_end _ _ _ _ _ c.loop-stretch-test.true c.loop-stretch.invariant.walks in
    omega (arith, ints)

pub loop-stretch-preserved : goal.loop-stretch-preserved
loop-stretch-preserved c =
    let walks = c.loop-stretch.invariant.walks in
    let there = c.loop-stretch-test.true in
    let end = walk_end _ _ _ _ _ there walks in
    let more = walk_sum _ _ _ _ _ c.args.to there walks c.requires.begins_inside c.if-to-start.false c.requires.ends_inside in
    let so_far : min c.loop-stretch.start c.args.to ≡ c.loop-stretch.start = omega arith in
    let total = rw so_far at c.loop-stretch.invariant.total in
    let fits : FitsSigned w64 (stretch_at c.stretches_from-stretch-items.result.now c.loop-stretch.stretch-index).value = search rules in
    let product = rw (to_z-of_z w64 _ fits, c.min.ensures) at c.minutes_times-total.ensures.product in
    record {
      walks = walk_on _ _ _ _ _ there walks;
      total = omega (arith, ints, more, total, product);
      size = omega (arith, ints);
    }
