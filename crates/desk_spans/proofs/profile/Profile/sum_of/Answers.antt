use Rattle.std.proofs.Common.{◌≡◌, ◌<◌, ◌≤◌, length, rules, arith, refl, sym, ◌∙◌, FitsSigned, w64, inl, inr}
use Rattle.std.proofs.lemmas.Bool.{cases_lt}
use Rattle.std.proofs.lemmas.Int.{int_wrap_fits}
use Rattle.desk_spans.specs.Timeline.{end_of}
use Rattle.desk_spans.proofs.Sizes.{laid_sum}
use Rattle.desk_spans.proofs.Walks.{stretch_at, walk_begins, walk_value, walk_end, walk_done}
use Rattle.desk_spans.proofs.profile.Profile.sum_of.Goals as goal
use Rattle.desk_spans.proofs.profile.Profile.sum_of.Goals.{then-loop-left-test+else-not-is_empty, else-loop-left-test}

pub loop-left-init : goal.loop-left-init
loop-left-init c =
    let left = walk_begins _ _ _ _ c.a.view_is c.a.invariant.fill in
    let right = walk_begins _ _ _ _ c.b.view_is c.b.invariant.fill in
    let from : c.a.inside.from ≡ c.args.a.now.from = rw (← c.a.view_is) refl in
    let begun : end_of c.in_ok-sum.sum ≡ c.args.a.now.from = rw from at c.in_ok-sum.ensures.empty in
    record {
      from = rw from at c.in_ok-sum.ensures.from;
      left = rw (begun, c.as_slice-left.ensures.value) left;
      right = rw (begun, c.as_slice-right.ensures.value, ← c.requires.from) right;
      sums = λ m low high. absurd (omega arith);
      whole = λ m low high. absurd (omega arith);
    }

pub lay-requires : goal.lay-requires
lay-requires c =
    let some_left : 0 < length c.loop-left.left.now = search rules in
    let some_right : 0 < length c.loop-left.right.now = search rules in
    let left = walk_end _ _ _ _ 0 some_left c.loop-left.invariant.left in
    let right = walk_end _ _ _ _ 0 some_right c.loop-left.invariant.right in
    omega arith

pub loop-left-preserved : goal.loop-left-preserved
loop-left-preserved c =
    let some_left : 0 < length c.loop-left.left.now = search rules in
    let some_right : 0 < length c.loop-left.right.now = search rules in
    let left = walk_end _ _ _ _ 0 some_left c.loop-left.invariant.left in
    let right = walk_end _ _ _ _ 0 some_right c.loop-left.invariant.right in
    let end = c.in_ok-lay.ensures.end in
    record {
      from = c.in_ok-lay.ensures.from ∙ c.loop-left.invariant.from;
      left = record { begun = omega (arith, c.loop-left.invariant.left.begun); fill = rw end (c.behind-left.ensures.fill _ _ c.loop-left.invariant.left.fill); values = λ m low high. c.behind-left.ensures.values m (omega arith) ∙ c.loop-left.invariant.left.values m (omega arith) high };
      right = record { begun = omega (arith, c.loop-left.invariant.left.begun); fill = rw end (c.behind-right.ensures.fill _ _ c.loop-left.invariant.right.fill); values = λ m low high. c.behind-right.ensures.values m (omega arith) ∙ c.loop-left.invariant.right.values m (omega arith) high };
      sums = λ m low high. elim (cases_lt m (end_of c.loop-left.sum)) [
        | inl before ↦ c.in_ok-lay.ensures.before m (omega arith) before ∙ c.loop-left.invariant.sums m low before
        | inr here ↦
            let laid = c.in_ok-lay.ensures.level m here (omega arith) in
            let s = walk_value _ _ _ _ 0 some_left c.loop-left.invariant.left m here (omega arith) in
            let t = walk_value _ _ _ _ 0 some_right c.loop-left.invariant.right m here (omega arith) in
            let fits_s : FitsSigned w64 (stretch_at c.loop-left.left.now 0).value = search rules in
            let fits_t : FitsSigned w64 (stretch_at c.loop-left.right.now 0).value = search rules in
            laid_sum _ _ _ _ _ fits_s fits_t s t laid
      ];
      whole = λ m low high. elim (cases_lt m (end_of c.loop-left.sum)) [
        | inl before ↦ c.loop-left.invariant.whole m low before
        | inr here ↦
            let s = walk_value _ _ _ _ 0 some_left c.loop-left.invariant.left m here (omega arith) in
            let fits_s : FitsSigned w64 (stretch_at c.loop-left.left.now 0).value = search rules in
            rw s (sym (int_wrap_fits w64 _ fits_s))
      ];
    }

pub returns-clause-whole : goal.returns-clause-whole
returns-clause-whole c m low high =
    elim c.loop-left-test.branch [
      | then-loop-left-test+else-not-is_empty w ↦
          let none : length c.loop-left.right.now ≤ 0 = search rules in
          c.loop-left.invariant.whole m low (omega (arith, walk_done _ _ _ _ 0 none c.loop-left.invariant.right))
      | else-loop-left-test w ↦
          let none : length c.loop-left.left.now ≤ 0 = search rules in
          c.loop-left.invariant.whole m low (omega (arith, walk_done _ _ _ _ 0 none c.loop-left.invariant.left))
    ]
